-- The turns of the pass as its loop meets them, and its measure. Assumes nothing.
use Prim.Native.Nat.{ℕ, zero, suc, ◌+◌, ◌-◌, ◌*◌, ◌/◌, ◌%◌, ◌^◌, ◌≤◌, ◌<◌}
use mathlib.Core.Bool.{Bool, true, false, ◌&&◌}
use mathlib.Core.Path.{◌≡◌, sym, ap, ◌∙◌, subst}
use mathlib.Core.List.{List}
use native.Mathlib.Omega.{arith}
use lib.Pow as pow
use borrow.Author.Tests.{le-leb, lt-ltb}
use lib.ListN.{length, get_or, set}
use Rattle.asmap_program.specs.Map.{RETURN, JUMP}
use Rattle.asmap_codes.specs.Row.{type_row, operand_row, in_range}
use Rattle.asmap_codes.specs.Encode.{instruction_bits}
use Rattle.prefix_runs.specs.declared.Run.{Run}
use Rattle.asmap_front_writer.specs.declared.Front.{Front}
use Rattle.prefix_records.specs.models.Cursor.{value_of}
use Rattle.asmap_shapes.specs.Shape.{shape, bits_of}
use Rattle.asmap_shapes.proofs.TreeLaws.{Number}
use Rattle.prefix_runs.specs.models.Runs.{RunAt}
use Rattle.asmap_front_writer.specs.models.Front.{Ready, Emitted}
use Rattle.asmap_build.specs.models.Size.{Sized, WriteReady, Filled}
use Rattle.asmap_build.proofs.Passing.{Passing, power_down, deeper, down, return_long, room_for, returned, over, close_long, close_over, closed, run_here, some_address, crossed, ending}
use Rattle.std.specs.Prelude.{Some}

-- ---- in range

return_ranged : (v : ℕ) → Number v → (in_range type_row RETURN && in_range (operand_row RETURN) v) ≡ true
return_ranged v h = rw (le-leb 1 v h.0, lt-ltb v 33521665 (omega (arith, h.1)))

jump_ranged : (v : ℕ) → 17 ≤ v → v ≤ 134217728 → (in_range type_row JUMP && in_range (operand_row JUMP) v) ≡ true
jump_ranged v h k = rw (le-leb 17 v h, lt-ltb v 2147483633 (omega arith))

-- ---- the turns

-- how much is left: the addresses before the end of what is to do, and within a place the levels
abbrev pub left : ℕ → ℕ → ℕ → ℕ → ℕ
left w v d zero = 300 * v + 130 + d
left w v d (suc t) = 300 * (v + 2 ^ (w - d)) + (129 - d)

module _ (f : ℕ → ℕ) (Cuts : ℕ → ℕ → Type 0) (w : ℕ) (small : w ≤ 128) (numbers : (a : ℕ) → Number (f a)) where
  abbrev P : Bool → ℕ → List ℕ → List ℕ → List ℕ → Front → ℕ → ℕ → ℕ → Run → Type 0
  P writes total o₀ o starts front v d t run = Passing f Cuts w writes total o₀ o starts front v d t run

  abbrev B : List ℕ
  B = bits_of (shape f w 0)

  module _ {writes : Bool} {total : ℕ} {o₀ o starts : List ℕ} {front : Front} {v d t : ℕ} {run : Run} (s : P writes total o₀ o starts front v d t run) where
    as_todo : t ≡ 1 → P writes total o₀ o starts front v d 1 run
    as_todo e = subst (λ (x : ℕ). P writes total o₀ o starts front v d x run) e s

    as-done : t ≡ 0 → 1 ≤ d → P writes total o₀ o starts front v (suc (d - 1)) 0 run
    as-done e h =
        let q : d ≡ suc (d - 1) = omega arith in
        subst (λ (x : ℕ). P writes total o₀ o starts front v x 0 run) q (subst (λ (x : ℕ). P writes total o₀ o starts front v d x run) e s)

    same_depth : 1 ≤ d → suc (d - 1) ≡ d
    same_depth h = omega arith

    -- down
    pub turn_deep : t ≡ 1 → v < value_of run.first → (d < w) × (v % 2 ^ (w - d) ≡ 0)
    turn_deep e h = (deeper f Cuts w (as_todo e) h, ap (λ (x : ℕ). x % 2 ^ (w - d)) s.placed ∙ native.Mathlib.Nat.mul-mod_left s.p (2 ^ (w - d)))

    pub turn-down : t ≡ 1 → v < value_of run.first → (v' : ℕ) → v' ≡ v + 2 ^ (w - suc d) → P writes total o₀ o starts front v' (d + 1) t run
    turn-down e h v' q =
        let n : suc d ≡ d + 1 = omega arith in
        subst (λ (x : ℕ). P writes total o₀ o starts front v' (d + 1) x run) (sym e)
        (subst (λ (x : ℕ). P writes total o₀ o starts front v' x 1 run) n
        (subst (λ (x : ℕ). P writes total o₀ o starts front x (suc d) 1 run) (sym q) (down f Cuts w (as_todo e) h)))

    pub less-down : t ≡ 1 → v < value_of run.first → (v' : ℕ) → v' ≡ v + 2 ^ (w - suc d) → left w v' (d + 1) t < left w v d t
    less-down e h v' q =
        let l = deeper f Cuts w (as_todo e) h in
        let c = power_down w d l in
        let n : w - (d + 1) ≡ w - suc d = omega arith in
        rw (e, n) (omega (arith, c, q, l, small))

    -- RETURN
    pub return_ready : t ≡ 1 → value_of run.first ≤ v → Ready o front RETURN run.number writes
    return_ready e h =
        let k = as_todo e in
        let y = pow.pow_pos (w - d) in
        let q : f (value_of run.first) ≡ run.number = k.runs.same (value_of run.first) (omega arith) (omega (arith, k.start, y)) in
        let n : Number run.number = subst Number q (numbers (value_of run.first)) in
        record {
          ranged = return_ranged run.number n;
          few = omega (arith, k.counted, k.few);
          room = room_for f Cuts w k (instruction_bits RETURN run.number) (return_long f Cuts w k h);
        }

    pub turn-return : t ≡ 1 → value_of run.first ≤ v → {o' : List ℕ} {front' : Front} → Emitted o front RETURN run.number writes o' front'
        → front'.done ≤ 134217728 → P writes total o₀ o' starts front' v d 0 run
    turn-return e h m k = returned f Cuts w (as_todo e) h m k

    pub less-return : t ≡ 1 → left w v d 0 < left w v d t
    less-return e = let y = pow.pow_pos (w - d) in rw e (omega (arith, y, s.deep, small))

    pub over-return : t ≡ 1 → value_of run.first ≤ v → {o' : List ℕ} {front' : Front} → Emitted o front RETURN run.number writes o' front'
        → 134217728 < front'.done → 134217728 < length B
    over-return e h m k = omega (arith, return_long f Cuts w (as_todo e) h, m.done, k)

    -- JUMP
    operand : 1 ≤ d → over front starts (d - 1) ≡ front.done - get_or starts d 0
    operand h = ap (λ (x : ℕ). front.done - get_or starts x 0) (same_depth h)

    bit : {b : ℕ} (h : 1 ≤ d) → v / 2 ^ (w - d) % 2 ≡ b → v / 2 ^ (w - suc (d - 1)) % 2 ≡ b
    bit h q = ap (λ (x : ℕ). v / 2 ^ (w - x) % 2) (same_depth h) ∙ q

    pub close_note : t ≡ 0 → 1 ≤ d → (get_or starts d 0 ≤ front.done) × (17 ≤ front.done - get_or starts d 0) × (front.done - get_or starts d 0 ≤ 134217728)
    close_note e h =
        let k = close_over f Cuts w (as-done e h) in
        let q = operand h in
        let n : get_or starts (suc (d - 1)) 0 ≡ get_or starts d 0 = ap (λ (x : ℕ). get_or starts x 0) (same_depth h) in
        (omega (arith, k.2, n), omega (arith, k.0, q), omega (arith, k.1, q))

    pub close_ready : t ≡ 0 → 1 ≤ d → v / 2 ^ (w - d) % 2 ≡ 0 → Ready o front JUMP (front.done - get_or starts d 0) writes
    close_ready e h z =
        let k = close_note e h in
        let l = close_long f Cuts w (as-done e h) (bit h z) in
        let q = ap (λ (x : ℕ). length (instruction_bits JUMP x)) (operand h) in
        record {
          ranged = jump_ranged (front.done - get_or starts d 0) k.1 k.2;
          few = omega (arith, s.counted, s.few);
          room = room_for f Cuts w s (instruction_bits JUMP (front.done - get_or starts d 0)) (omega (arith, l, q));
        }

    pub turn_close : t ≡ 0 → 1 ≤ d → v / 2 ^ (w - d) % 2 ≡ 0 → {o' : List ℕ} {front' : Front} → Emitted o front JUMP (front.done - get_or starts d 0) writes o' front'
        → front'.done ≤ 134217728 → P writes total o₀ o' starts front' v (d - 1) t run
    turn_close e h z {o'} {front'} m k =
        subst (λ (x : ℕ). P writes total o₀ o' starts front' v (d - 1) x run) (sym e)
        (closed f Cuts w (as-done e h) (bit h z) (subst (λ (x : ℕ). Emitted o front JUMP x writes o' front') (sym (operand h)) m) k)

    pub less_close : t ≡ 0 → 1 ≤ d → left w v (d - 1) t < left w v d t
    less_close e h = rw e (omega arith)

    pub over_close : t ≡ 0 → 1 ≤ d → v / 2 ^ (w - d) % 2 ≡ 0 → {o' : List ℕ} {front' : Front} → Emitted o front JUMP (front.done - get_or starts d 0) writes o' front'
        → 134217728 < front'.done → 134217728 < length B
    over_close e h z m k =
        let l = close_long f Cuts w (as-done e h) (bit h z) in
        let q = ap (λ (x : ℕ). length (instruction_bits JUMP x)) (operand h) in
        omega (arith, l, q, m.done, k)

    -- beside
    pub cross-run : t ≡ 0 → 1 ≤ d → v / 2 ^ (w - d) % 2 ≡ 1 → (0 < v) × (value_of run.first ≤ v) × RunAt f Cuts v run
    cross-run e h z =
        let k = as-done e h in
        let r = run_here f Cuts w k in
        let y = pow.pow_pos (w - suc (d - 1)) in
        (omega (arith, some_address f Cuts w k (bit h z), y), r.1, r.0)

    pub turn_cross : {run' : Run} → t ≡ 0 → 1 ≤ d → v / 2 ^ (w - d) % 2 ≡ 1 → value_of run'.first < v → RunAt f Cuts v run'
        → (v' : ℕ) → v' ≡ v - 2 ^ (w - d) → P writes total o₀ o (set starts d front.done) front v' d 1 run'
    turn_cross {run'} e h z l r v' q =
        let n = same_depth h in
        let c = crossed f Cuts w (as-done e h) (bit h z) l r in
        subst (λ (x : ℕ). P writes total o₀ o (set starts d front.done) front x d 1 run') (sym q)
        (subst (λ (x : ℕ). P writes total o₀ o (set starts x front.done) front (v - 2 ^ (w - x)) x 1 run') n c)

    pub less_cross : t ≡ 0 → 1 ≤ d → v / 2 ^ (w - d) % 2 ≡ 1 → (v' : ℕ) → v' ≡ v - 2 ^ (w - d) → left w v' d 1 < left w v d t
    less_cross e h z v' q =
        let k = some_address f Cuts w (as-done e h) (bit h z) in
        let n : 2 ^ (w - suc (d - 1)) ≡ 2 ^ (w - d) = ap (λ (x : ℕ). 2 ^ (w - x)) (same_depth h) in
        rw e (omega (arith, k, n, q))

    -- over the limit: nothing was to be written
    pub over_filled : {o' : List ℕ} → WriteReady writes total B o₀ → 134217728 < length B → (writes ≡ false → o' ≡ o) → Filled writes B o₀ o'
    over_filled r h i = record { idle = λ e. i e ∙ s.idle e; busy = λ e. absurd (omega (arith, r.count e, r.most, h)) }

    pub turn_end : d + t ≡ 0 → Sized B (Some front.done) × Filled writes B o₀ o
    turn_end e =
        let a : d ≡ 0 = omega arith in
        let b : t ≡ 0 = omega arith in
        ending f Cuts w (subst (λ (x : ℕ). P writes total o₀ o starts front v x 0 run) a (subst (λ (x : ℕ). P writes total o₀ o starts front v d x run) b s))
