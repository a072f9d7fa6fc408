-- What the loop of the pass knows, and that each of its four turns keeps it. Over the width w, a number f for each address, and Cuts, what the
-- runs know of the list: nothing here looks into either.
-- Assumes nothing.
use Prim.Native.Nat.{ℕ, zero, suc, ◌+◌, ◌-◌, ◌*◌, ◌/◌, ◌%◌, ◌^◌, ◌≤◌, ◌<◌}
use mathlib.Core.Bool.{Bool, true, false}
use mathlib.Core.Path.{◌≡◌, refl, sym, ap, ap₂, ◌∙◌, subst}
use mathlib.Core.Logic.{◌≢◌}
use mathlib.Core.List.{List, [], ◌∷◌, ◌++◌, append_assoc, append-nil}
use native.Mathlib.Omega.{arith}
use native.Mathlib.Nat.{pow-succ', mul_assoc, mul_left_comm, add-mul, one-mul}
use lib.Pow as pow
use lib.Dec.{eqb}
use borrow.Author.Tests.{eqb-true, eqb-false}
use lib.ListN.{length, get_or, set, take, drop, replicate, length-append, length-set}
use lib.Seq.{sets, get_or-set_same, get_or-set_other}
use Rattle.asmap_program.specs.Map.{RETURN, JUMP}
use Rattle.asmap_codes.specs.Bits.{low, word}
use Rattle.asmap_codes.proofs.BitLaws.{length-low}
use Rattle.asmap_codes.specs.Encode.{instruction_bits}
use Rattle.asmap_bit_writer.specs.Bytes.{to_bytes, bytes_of}
use Rattle.prefix_runs.specs.declared.Run.{Run}
use Rattle.asmap_front_writer.specs.declared.Front.{Front}
use Rattle.prefix_records.specs.models.Cursor.{value_of}
use Rattle.asmap_build.specs.models.Size.{Sized, WriteReady, Filled}
use Rattle.asmap_shapes.specs.Shape.{Shape, Leaf, shape, bits_of}
use Rattle.asmap_build.specs.models.Pass.{whole}
use Rattle.prefix_runs.specs.models.Runs.{RunAt}
use Rattle.asmap_front_writer.specs.models.Front.{filled, Room, Moved, Emitted}
use Rattle.asmap_shapes.proofs.TreeLaws.{return-length}
use Rattle.asmap_build.proofs.PassLaws.{leaf_here, fork_here, fork_halves, whole_start, whole-down, whole-zero, whole_one, whole_long}
use Rattle.std.specs.Prelude.{Some}

-- ---- the output

-- the bits `behind` of `total` are written: whatever stands before them
pub record Wrote (total : ℕ) (o₀ o : List ℕ) (w : Front) (behind : List ℕ) : Type 0 where
  pub small : w.bits < 2 ^ w.held
  pub short : w.held < 8
  pub placed : 8 * w.place + length behind ≡ total + w.held
  pub inside : w.place ≤ length o
  pub fills : (before : List ℕ) → length before + length behind ≡ total → sets o₀ 0 (bytes_of (before ++ behind)) ≡ filled o w before

pub wrote_room : {total : ℕ} {o₀ o : List ℕ} {w : Front} {behind : List ℕ} (b : List ℕ) → Wrote total o₀ o w behind → length (b ++ behind) ≤ total → Room o w (length b)
wrote_room {total} {behind} b r h =
    let l = length-append b behind in
    record { small = r.small; short = r.short; free = omega (arith, r.placed); inside = r.inside }

pub wrote_more : {total : ℕ} {o₀ o o' : List ℕ} {w w' : Front} {behind b : List ℕ} → Wrote total o₀ o w behind → length o' ≡ length o
    → length (b ++ behind) ≤ total → Moved o w b o' w' → Wrote total o₀ o' w' (b ++ behind)
wrote_more {total} {o₀} {o} {o'} {w} {w'} {behind} {b} r k h m =
    let l = length-append b behind in
    record {
      small = m.small;
      short = m.short;
      placed = omega (arith, r.placed, m.placed);
      inside = omega (arith, r.placed, m.placed, r.inside, m.short, r.short);
      fills = λ before e.
          ap (λ (x : List ℕ). sets o₀ 0 (bytes_of x)) (sym (append_assoc before b behind))
          ∙ r.fills (before ++ b) (omega (arith, e, l, length-append before b))
          ∙ m.fills before (omega (arith, e, l, r.placed, m.placed));
    }

-- zeros after the bits fill the last byte
word_zeros : (k : ℕ) → word (replicate k 0) ≡ 0
word_zeros zero = refl
word_zeros (suc k) = rw (word_zeros k)

word_padded : (l : List ℕ) (k : ℕ) → word (l ++ replicate k 0) ≡ word l
word_padded [] k = word_zeros k
word_padded (b ∷ l) k = rw (word_padded l k)

take_zeros : (n k : ℕ) → (j : ℕ) × (take {A = ℕ} n (replicate k 0) ≡ replicate j 0)
take_zeros zero k = (0, refl)
take_zeros (suc n) zero = (0, refl)
take_zeros (suc n) (suc k) = let r = take_zeros n k in (suc r.0, ap (◌∷◌ 0) r.1)

drop_zeros : (n k : ℕ) → (j : ℕ) × (drop {A = ℕ} n (replicate k 0) ≡ replicate j 0)
drop_zeros zero k = (k, refl)
drop_zeros (suc n) zero = (0, refl)
drop_zeros (suc n) (suc k) = drop_zeros n k

take_padded : (n : ℕ) (l : List ℕ) (k : ℕ) → (j : ℕ) × (take n (l ++ replicate k 0) ≡ take n l ++ replicate j 0)
take_padded zero l k = (0, refl)
take_padded (suc n) [] k = take_zeros (suc n) k
take_padded (suc n) (b ∷ l) k = let r = take_padded n l k in (r.0, ap (◌∷◌ b) r.1)

drop_padded : (n : ℕ) (l : List ℕ) (k : ℕ) → (j : ℕ) × (drop n (l ++ replicate k 0) ≡ drop n l ++ replicate j 0)
drop_padded zero l k = (k, refl)
drop_padded (suc n) [] k = drop_zeros (suc n) k
drop_padded (suc n) (b ∷ l) k = drop_padded n l k

bytes_padded : (n : ℕ) (l : List ℕ) (k : ℕ) → to_bytes n (l ++ replicate k 0) ≡ to_bytes n l
bytes_padded zero l k = refl
bytes_padded (suc n) l k =
    let t = take_padded 8 l k in
    let d = drop_padded 8 l k in
    ap₂ ◌∷◌ (ap word t.1 ∙ word_padded (take 8 l) t.0) (ap (to_bytes n) d.1 ∙ bytes_padded n (drop 8 l) d.0)

low_zeros : (n : ℕ) → low n 0 ≡ replicate n 0
low_zeros zero = refl
low_zeros (suc n) = ap (◌∷◌ 0) (low_zeros n)

padded : (o l : List ℕ) (k : ℕ) → (length l + k + 7) / 8 ≡ (length l + 7) / 8 → sets o 0 (bytes_of (l ++ [])) ≡ sets o 0 (bytes_of (l ++ low k 0))
unfolding bytes_of
padded o l k h =
    let e : (length (l ++ low k 0) + 7) / 8 ≡ (length l + 7) / 8 = omega (arith, h, length-append l (low k 0), length-low k 0) in
    ap (sets o 0) (ap (λ (x : List ℕ). to_bytes ((length x + 7) / 8) x) (append-nil l)
    ∙ sym (ap (λ (i : ℕ). to_bytes i (l ++ low k 0)) e ∙ ap (λ (x : List ℕ). to_bytes ((length l + 7) / 8) (l ++ x)) (low_zeros k) ∙ bytes_padded ((length l + 7) / 8) l k))

padded_filled : (o l : List ℕ) (k place : ℕ) → (length l + k + 7) / 8 ≡ (length l + 7) / 8
    → sets o 0 (bytes_of (l ++ [])) ≡ filled o (record { done = 0; bits = 0; held = k; place = place }) l
unfolding filled
padded_filled o l k place h = padded o l k h

-- ---- powers and places

pub power_down : (w d : ℕ) → d < w → 2 ^ (w - d) ≡ 2 * 2 ^ (w - suc d)
power_down w d h = let e : w - d ≡ suc (w - suc d) = omega arith in ap (λ (i : ℕ). 2 ^ i) e ∙ pow-succ' 2 (w - suc d)

power_up : (d : ℕ) → 2 ^ suc d ≡ 2 * 2 ^ d
power_up d = pow-succ' 2 d

s_placed : (q x y v : ℕ) → y ≡ 2 * x → v ≡ q * y → v + x ≡ (2 * q + 1) * x
s_placed q x y v c e =
    let a : q * y ≡ 2 * (q * x) = ap (λ (i : ℕ). q * i) c ∙ mul_left_comm q 2 x in
    let b : (2 * q + 1) * x ≡ 2 * (q * x) + x = add-mul (2 * q) 1 x ∙ ap (λ (i : ℕ). i + 1 * x) (mul_assoc 2 q x) ∙ ap (λ (i : ℕ). 2 * (q * x) + i) (one-mul x) in
    omega (arith, a, b, e)

halve : (q x y : ℕ) → y ≡ 2 * x → q % 2 ≡ 0 → q * x ≡ q / 2 * y
halve q x y c e =
    let k : q ≡ 2 * (q / 2) = omega arith in
    ap (λ (i : ℕ). i * x) k ∙ mul_assoc 2 (q / 2) x ∙ sym (ap (λ (i : ℕ). q / 2 * i) c ∙ mul_left_comm (q / 2) 2 x)

beside : (q x v : ℕ) → v ≡ q * x → 1 ≤ q → v - x ≡ (q - 1) * x
beside q x v e h =
    let k : q ≡ q - 1 + 1 = omega arith in
    let a : q * x ≡ (q - 1) * x + x = ap (λ (i : ℕ). i * x) k ∙ add-mul (q - 1) 1 x ∙ ap (λ (i : ℕ). (q - 1) * x + i) (one-mul x) in
    omega (arith, a, e)

-- how long the half with bit 0 is
abbrev pub over : Front → List ℕ → ℕ → ℕ
over front starts d = front.done - get_or starts (suc d) 0

-- what was noted stays within what is behind
noting : (starts : List ℕ) (i n : ℕ) (behind : List ℕ) → i < length starts → n ≤ length behind → ((j : ℕ) → get_or starts j 0 + 17 ≤ length behind + 17 * 0)
    → (j : ℕ) → get_or (set starts i n) j 0 + 17 ≤ length behind + 17 * 1
noting starts i n behind h k old j = go (eqb j i) refl
  where
    go : (b : Bool) → eqb j i ≡ b → get_or (set starts i n) j 0 + 17 ≤ length behind + 17 * 1
    go true e = let q : j ≡ i = eqb-true j i e in rw q (omega (arith, get_or-set_same starts i n 0 h, k))
    go false e = omega (arith, get_or-set_other starts i j n 0 (eqb-false j i e), old j)

-- ---- the loop

module _ (f : ℕ → ℕ) (Cuts : ℕ → ℕ → Type 0) (w : ℕ) where
  -- what is behind once the subtree is done
  abbrev pub pending : ℕ → ℕ → ℕ → List ℕ → List ℕ
  pending zero d p behind = behind
  pending (suc t) d p behind = bits_of (shape f (w - d) p) ++ behind

  -- v: where the subtree starts; todo: whether it is still to do, 1 or 0
  pub record Passing (writes : Bool) (total : ℕ) (o₀ o starts : List ℕ) (front : Front) (v d todo : ℕ) (run : Run) : Type 0 where
    pub p : ℕ
    pub behind : List ℕ
    pub deep : d ≤ w
    pub some : todo ≤ 1
    pub placed : v ≡ p * 2 ^ (w - d)
    pub high : p < 2 ^ d
    pub kept : length o ≡ length o₀
    pub many : length starts ≡ suc w
    pub noted : (i : ℕ) → get_or starts i 0 + 17 ≤ length behind + 17 * todo
    pub counted : front.done ≡ length behind
    pub few : length behind ≤ 134217728
    pub all : bits_of (shape f w 0) ≡ whole f w starts d p (pending todo d p behind)
    pub start : value_of run.first + todo ≤ v + todo * 2 ^ (w - d)
    pub runs : RunAt f Cuts (v + todo * 2 ^ (w - d)) run
    pub idle : writes ≡ false → o ≡ o₀
    pub busy : writes ≡ true → (total ≡ length (bits_of (shape f w 0))) × Wrote total o₀ o front behind

  module _ {writes : Bool} {total : ℕ} {o₀ o starts : List ℕ} {front : Front} {v d : ℕ} {run : Run} where
    -- ---- a subtree to do that starts before its run: down to the half with bit 1

    parted : (s : Passing writes total o₀ o starts front v d 1 run) → v < value_of run.first → (m : ℕ) → shape f (w - d) s.p ≢ Leaf m
    parted s h =
        let x = 2 ^ (w - d) in
        let e = s.placed in
        let one : v + 1 * x ≡ s.p * x + x = omega arith in
        fork_here f (w - d) s.p (value_of run.first) run.number
        (λ a g l. s.runs.same a g (omega (arith, l, one))) (omega (arith, h, e)) (omega (arith, s.start, one)) (s.runs.other (omega (arith, h)))

    pub deeper : Passing writes total o₀ o starts front v d 1 run → v < value_of run.first → d < w
    deeper s h = let k = (fork_halves f (w - d) s.p (parted s h)).0 in omega (arith, k)

    pub down : Passing writes total o₀ o starts front v d 1 run → v < value_of run.first
        → Passing writes total o₀ o starts front (v + 2 ^ (w - suc d)) (suc d) 1 run
    down s h =
        let l = deeper s h in
        let x = 2 ^ (w - suc d) in
        let q = s.p in
        let c = power_down w d l in
        let b = power_up d in
        let e : v + x ≡ (2 * q + 1) * x = s_placed q x (2 ^ (w - d)) v c s.placed in
        let g : v + x + 1 * x ≡ v + 1 * 2 ^ (w - d) = omega (arith, c) in
        record {
          p = 2 * q + 1;
          behind = s.behind;
          deep = l;
          some = omega arith;
          placed = e;
          high = omega (arith, b, s.high);
          kept = s.kept;
          many = s.many;
          noted = s.noted;
          counted = s.counted;
          few = s.few;
          all = s.all ∙ whole-down f w starts d q s.behind (parted s h);
          start = omega (arith, g, s.start);
          runs = subst (λ (i : ℕ). RunAt f Cuts i run) (sym g) s.runs;
          idle = s.idle;
          busy = s.busy;
        }

    -- ---- a subtree to do that its run holds: RETURN

    return_all : (s : Passing writes total o₀ o starts front v d 1 run) → value_of run.first ≤ v
        → bits_of (shape f w 0) ≡ whole f w starts d s.p (instruction_bits RETURN run.number ++ s.behind)
    unfolding bits_of
    return_all s h =
        let x = 2 ^ (w - d) in
        let one : v + 1 * x ≡ s.p * x + x = omega (arith, s.placed) in
        let e = leaf_here f (w - d) s.p (value_of run.first) run.number (λ a g l. s.runs.same a g (omega (arith, l, one))) (omega (arith, h, s.placed)) in
        s.all ∙ ap (λ (t : Shape). whole f w starts d s.p (bits_of t ++ s.behind)) e

    pub return_long : (s : Passing writes total o₀ o starts front v d 1 run) → value_of run.first ≤ v
        → front.done + length (instruction_bits RETURN run.number) ≤ length (bits_of (shape f w 0))
    return_long s h =
        let I = instruction_bits RETURN run.number in
        let l = whole_long f w starts d s.p (I ++ s.behind) in
        let e = ap length (return_all s h) in
        omega (arith, l, e, length-append I s.behind, s.counted)

    pub room_for : {t : ℕ} (s : Passing writes total o₀ o starts front v d t run) (b : List ℕ) → front.done + length b ≤ length (bits_of (shape f w 0)) → writes ≡ true → Room o front (length b)
    room_for s b h e = let k = s.busy e in wrote_room b k.1 (omega (arith, h, length-append b s.behind, s.counted, k.0))

    pub returned : {o' : List ℕ} {front' : Front} → Passing writes total o₀ o starts front v d 1 run → value_of run.first ≤ v
        → Emitted o front RETURN run.number writes o' front' → front'.done ≤ 134217728
        → Passing writes total o₀ o' starts front' v d 0 run
    returned {o'} {front'} s h m k =
        let I = instruction_bits RETURN run.number in
        let l = length-append I s.behind in
        let g = return_long s h in
        let r = return-length run.number in
        let z : v + 0 * 2 ^ (w - d) ≡ v = omega arith in
        record {
          p = s.p;
          behind = I ++ s.behind;
          deep = s.deep;
          some = omega arith;
          placed = s.placed;
          high = s.high;
          kept = m.kept ∙ s.kept;
          many = s.many;
          noted = λ i. omega (arith, s.noted i, l, r);
          counted = omega (arith, m.done, s.counted, l);
          few = omega (arith, m.done, s.counted, l, k);
          all = return_all s h;
          start = omega (arith, z, h);
          runs = record { same = λ a i j. s.runs.same a i (omega (arith, j, z)); other = s.runs.other; cut = s.runs.cut };
          idle = λ e. m.idle e ∙ s.idle e;
          busy = λ e. let b = s.busy e in (b.0, wrote_more b.1 m.kept (omega (arith, g, l, s.counted, b.0)) (m.busy e));
        }

  module _ {writes : Bool} {total : ℕ} {o₀ o starts : List ℕ} {front : Front} {v d : ℕ} {run : Run} where
    bit_of : (s : Passing writes total o₀ o starts front v (suc d) 0 run) → v / 2 ^ (w - suc d) ≡ s.p
    bit_of s = ap (λ (x : ℕ). x / 2 ^ (w - suc d)) s.placed ∙ pow.shl-shr s.p (w - suc d)

    -- ---- a half with bit 0 is done: its JUMP

    close_all : (s : Passing writes total o₀ o starts front v (suc d) 0 run) → v / 2 ^ (w - suc d) % 2 ≡ 0
        → bits_of (shape f w 0) ≡ whole f w starts d (s.p / 2) (instruction_bits JUMP (over front starts d) ++ s.behind)
    close_all s h =
        let e : s.p % 2 ≡ 0 = ap (λ (x : ℕ). x % 2) (sym (bit_of s)) ∙ h in
        let c : length s.behind - get_or starts (suc d) 0 ≡ over front starts d = ap (λ (x : ℕ). x - get_or starts (suc d) 0) (sym s.counted) in
        s.all ∙ whole-zero f w starts d s.p s.behind e
        ∙ ap (λ (x : ℕ). whole f w starts d (s.p / 2) (instruction_bits JUMP x ++ s.behind)) c

    pub close_long : (s : Passing writes total o₀ o starts front v (suc d) 0 run) → v / 2 ^ (w - suc d) % 2 ≡ 0
        → front.done + length (instruction_bits JUMP (over front starts d)) ≤ length (bits_of (shape f w 0))
    close_long s h =
        let I = instruction_bits JUMP (over front starts d) in
        let l = whole_long f w starts d (s.p / 2) (I ++ s.behind) in
        let e = ap length (close_all s h) in
        omega (arith, l, e, length-append I s.behind, s.counted)

    -- the JUMP's operand is in range, and its note within the count
    pub close_over : Passing writes total o₀ o starts front v (suc d) 0 run → (17 ≤ over front starts d) × (over front starts d ≤ 134217728) × (get_or starts (suc d) 0 ≤ front.done)
    close_over s = let n = s.noted (suc d) in (omega (arith, n, s.counted), omega (arith, s.few, s.counted), omega (arith, n, s.counted))

    pub closed : {o' : List ℕ} {front' : Front} → Passing writes total o₀ o starts front v (suc d) 0 run → v / 2 ^ (w - suc d) % 2 ≡ 0
        → Emitted o front JUMP (over front starts d) writes o' front' → front'.done ≤ 134217728
        → Passing writes total o₀ o' starts front' v d 0 run
    closed {o'} {front'} s h m k =
        let I = instruction_bits JUMP (over front starts d) in
        let l = length-append I s.behind in
        let g = close_long s h in
        let q = s.p in
        let e : q % 2 ≡ 0 = ap (λ (x : ℕ). x % 2) (sym (bit_of s)) ∙ h in
        let x = 2 ^ (w - suc d) in
        let c = power_down w d s.deep in
        let b = power_up d in
        let z : v + 0 * 2 ^ (w - d) ≡ v + 0 * x = omega arith in
        let half : v ≡ q / 2 * 2 ^ (w - d) = s.placed ∙ halve q x (2 ^ (w - d)) c e in
        record {
          p = q / 2;
          behind = I ++ s.behind;
          deep = omega (arith, s.deep);
          some = omega arith;
          placed = half;
          high = omega (arith, b, s.high, e);
          kept = m.kept ∙ s.kept;
          many = s.many;
          noted = λ i. omega (arith, s.noted i, l);
          counted = omega (arith, m.done, s.counted, l);
          few = omega (arith, m.done, s.counted, l, k);
          all = close_all s h;
          start = omega (arith, z, s.start);
          runs = subst (λ (i : ℕ). RunAt f Cuts i run) (sym z) s.runs;
          idle = λ e. m.idle e ∙ s.idle e;
          busy = λ e. let b = s.busy e in (b.0, wrote_more b.1 m.kept (omega (arith, g, l, s.counted, b.0)) (m.busy e));
        }

    -- ---- a half with bit 1 is done: to the one beside it

    pub run_here : Passing writes total o₀ o starts front v (suc d) 0 run → RunAt f Cuts v run × (value_of run.first ≤ v)
    run_here s = let z : v + 0 * 2 ^ (w - suc d) ≡ v = omega arith in (subst (λ (i : ℕ). RunAt f Cuts i run) z s.runs, omega (arith, z, s.start))

    pub some_address : Passing writes total o₀ o starts front v (suc d) 0 run → v / 2 ^ (w - suc d) % 2 ≡ 1 → 2 ^ (w - suc d) ≤ v
    some_address s h =
        let e : s.p % 2 ≡ 1 = ap (λ (x : ℕ). x % 2) (sym (bit_of s)) ∙ h in
        let k = native.Mathlib.Nat.mul-le-mul_right {m = 1} {n = s.p} (2 ^ (w - suc d)) (omega (arith, e)) in
        omega (arith, k, s.placed)

    pub crossed : {run' : Run} → Passing writes total o₀ o starts front v (suc d) 0 run → v / 2 ^ (w - suc d) % 2 ≡ 1
        → value_of run'.first < v → RunAt f Cuts v run'
        → Passing writes total o₀ o (set starts (suc d) front.done) front (v - 2 ^ (w - suc d)) (suc d) 1 run'
    crossed {run'} s h less new =
        let q = s.p in
        let x = 2 ^ (w - suc d) in
        let e : q % 2 ≡ 1 = ap (λ (y : ℕ). y % 2) (sym (bit_of s)) ∙ h in
        let c = some_address s h in
        let z : v - x + 1 * x ≡ v = omega (arith, c) in
        let n : front.done ≡ length s.behind = s.counted in
        record {
          p = q - 1;
          behind = s.behind;
          deep = s.deep;
          some = omega arith;
          placed = beside q x v s.placed (omega (arith, e));
          high = omega (arith, s.high);
          kept = s.kept;
          many = length-set starts (suc d) front.done ∙ s.many;
          noted = noting starts (suc d) front.done s.behind (omega (arith, s.many, s.deep)) (omega (arith, n)) s.noted;
          counted = s.counted;
          few = s.few;
          all = s.all ∙ whole_one f w starts d q s.behind e (omega (arith, s.many, s.deep))
              ∙ ap (λ (y : ℕ). whole f w (set starts (suc d) y) (suc d) (q - 1) (bits_of (shape f (w - suc d) (q - 1)) ++ s.behind)) (sym n);
          start = omega (arith, z, less);
          runs = subst (λ (i : ℕ). RunAt f Cuts i run') (sym z) new;
          idle = s.idle;
          busy = s.busy;
        }

  -- ---- the start and the end

  pub starting : (writes : Bool) (total : ℕ) (o starts : List ℕ) (run : Run) → length starts ≡ suc w → ((i : ℕ) → get_or starts i 0 ≡ 0)
      → value_of run.first < 2 ^ w → RunAt f Cuts (2 ^ w) run → WriteReady writes total (bits_of (shape f w 0)) o
      → Passing writes total o o starts (record { done = 0; bits = 0; held = (8 - total % 8) % 8; place = (total + 7) / 8 }) 0 0 1 run
  starting writes total o starts run l z h r k =
      let e : 2 ^ w ≡ 0 + 1 * 2 ^ (w - 0) = let i : w - 0 ≡ w = omega arith in rw i (omega arith) in
      record {
        p = 0;
        behind = [];
        deep = omega arith;
        some = omega arith;
        placed = omega arith;
        high = omega arith;
        kept = refl;
        many = l;
        noted = λ i. omega (arith, z i);
        counted = refl;
        few = omega arith;
        all = whole_start f w starts;
        start = omega (arith, h, e);
        runs = subst (λ (i : ℕ). RunAt f Cuts i run) e r;
        idle = λ _. refl;
        busy = λ b. (
          k.count b,
          record {
            small = pow.pow_pos ((8 - total % 8) % 8);
            short = omega arith;
            placed = omega arith;
            inside = k.room b;
            fills = λ before q. padded_filled o before ((8 - total % 8) % 8) ((total + 7) / 8) (omega (arith, q));
          },
        );
      }

  pub ending : {writes : Bool} {total : ℕ} {o₀ o starts : List ℕ} {front : Front} {v : ℕ} {run : Run}
      → Passing writes total o₀ o starts front v 0 0 run → Sized (bits_of (shape f w 0)) (Some front.done) × Filled writes (bits_of (shape f w 0)) o₀ o
  unfolding whole filled bytes_of
  ending {o₀} {o} {front} s = (
    (s.counted ∙ sym (ap length s.all), omega (arith, ap length s.all, s.few)),
    record {
      idle = s.idle;
      busy = λ e. let b = s.busy e in
          let z : front.held ≡ 0 = omega (arith, b.1.placed, b.1.short, b.0, ap length s.all) in
          sym (ap (λ (l : List ℕ). sets o₀ 0 (bytes_of l)) s.all ∙ b.1.fills [] (omega (arith, b.0, ap length s.all)) ∙ ap (λ (i : ℕ). sets o 0 (bytes_of (low i front.bits))) z);
    },
  )
