-- On what our check accepts Core's Interpret answers the defined walk's number, and so never leaves its loop. Its stop at a JUMP that
-- reaches the end is never met on a tree: rests on the tree law.
-- Assumes nothing.
use Prim.Native.Nat.{ℕ, zero, suc, ◌+◌, ◌-◌, ◌≤◌, ◌<◌}
use mathlib.Core.Bool.{Bool, true, false, cond}
use mathlib.Core.Path.{◌≡◌, refl, ap, subst, ◌∙◌}
use mathlib.Core.List.{List}
use native.Mathlib.Omega.{arith}
use lib.Dec.{leb, ltb, eqb}
use borrow.Author.Tests.{eqb-true, eqb-false, lt-ltb, le-ltb, le-leb, lt-leb, eq-eqb, ne_eqb}
use Rattle.asmap_program.specs.declared.Instruction.{Instruction}
use Rattle.asmap_program.specs.declared.Previous.{Previous}
use Rattle.asmap_program.specs.declared.Previous.TheVariants.{Other}
use Rattle.asmap_program.specs.Map.{RETURN, JUMP, MATCH, DEFAULT, Map, Whole, end_of, target_of, Laws, bit_of, length_of}
use Rattle.asmap_program.specs.Check.{check}
use Rattle.asmap_program.specs.declared.Walker.{Walker}
use Rattle.asmap_program.specs.Walk.{Walked, Compared, Equal, Different, compared, meeting, enough, go_on, walk_from, walk}
use Rattle.asmap_program.specs.Core.{INVALID, Read, File, Pointer, CoreAnswer, Number, Interpreted, Moves, Gives, break_if, or_break, core_go_on, core_compared, core_matched, core_turn, core_walk, core_interpret, decode_of, Reads, Joined}
use Rattle.asmap_program.specs.Tree.{Tree, return, jump, match, default}
use Rattle.asmap_program.proofs.Tree.{program, forward}
use Rattle.asmap_program.proofs.Demand.{walk_at}
use Rattle.asmap_program.specs.Verdict.{Accepted}

eqb_comm : (a b : ℕ) → eqb a b ≡ eqb b a
eqb_comm a b = pick (eqb b a) refl
  where
    pick : (t : Bool) → eqb b a ≡ t → eqb a b ≡ t
    pick true e = eq-eqb a b (omega (arith, eqb-true b a e))
    pick false e = ne_eqb a b (omega (arith, eqb-false b a e))

abbrev equal : Compared → Bool
equal Equal = true
equal (Different n) = false

read_there : (r : Read) (v p : ℕ) → r ≡ record { value = v; pos = p } → v < INVALID → (k : ℕ → ℕ → Interpreted) → or_break r k ≡ k v p
read_there r v p e h k = rw (e, ne_eqb v INVALID (omega arith))

-- a turn of Core's where the operand v, read at q, ends at p
abbrev whole : (ℕ → ℕ) → ℕ → File → Pointer → ℕ → ℕ → ℕ → Interpreted
whole a w f s v p zero = Gives v
whole a w f s v p (suc zero) =
    break_if (eqb s.bits 0)
    (break_if (leb (f.endpos - p) v)
    (Moves (record { pos = cond (eqb (a (w - s.bits)) 1) (p + v) p; bits = s.bits - 1; default = s.default })))
whole a w f s v p (suc (suc zero)) = break_if (ltb s.bits (length_of v)) (core_matched a w s v p (core_compared a w (length_of v) v s.bits))
whole a w f s v p (suc (suc (suc n))) = Moves (record { pos = p; bits = s.bits; default = v })

module _ (a : ℕ → ℕ) (w : ℕ) where
  turn-whole : (f : File) (s : Pointer) (k q v p : ℕ) → k < 4 → decode_of f k q ≡ record { value = v; pos = p } → v < INVALID
      → core_turn a w f s k q ≡ whole a w f s v p k
  turn-whole f s zero q v p l e h = read_there (f.decode_asn q) v p e h (λ (v p : ℕ). Gives v)
  turn-whole f s (suc zero) q v p l e h = read_there (f.decode_jump q) v p e h (λ (v p : ℕ). whole a w f s v p 1)
  turn-whole f s (suc (suc zero)) q v p l e h = read_there (f.decode_match q) v p e h (λ (v p : ℕ). whole a w f s v p 2)
  turn-whole f s (suc (suc (suc zero))) q v p l e h = read_there (f.decode_asn q) v p e h (λ (v p : ℕ). whole a w f s v p 3)
  turn-whole f s (suc (suc (suc (suc k)))) q v p l e h = absurd (omega arith)

  same_compared : (n v u b : ℕ) → u + b ≡ w → n ≤ b → core_compared a w n v b ≡ equal (compared a n v u)
  unfolding core_compared compared
  same_compared zero v u b e h = refl
  same_compared (suc n) v u b e h =
      let d : w - b ≡ u = omega arith in
      rw (d, eqb_comm (a u) (bit_of v n))
      (elim (eqb (bit_of v n) (a u))
      as (λ (x : Bool). cond x (core_compared a w n v (b - 1)) false ≡ equal (cond x (compared a n v (suc u)) (Different (suc u))))
      [ true ↦ same_compared n v (suc u) (b - 1) (omega arith) (omega arith) | false ↦ refl ])

  module _ (m : Map) (f : File) (join : Joined m f) (law : Laws m) where
    core_at : (n k b d : ℕ) {at : ℕ} (i : Instruction) → m.fetch at ≡ Whole i → at < m.bits → i.opcode ≡ k
        → core_walk a w f (suc n) (record { pos = at; bits = b; default = d })
        ≡ core_go_on (core_walk a w f n) (whole a w f (record { pos = at; bits = b; default = d }) i.operand (end_of i) k)
    unfolding core_walk
    core_at n k b d {at} i g h e =
        let s : Pointer = record { pos = at; bits = b; default = d } in
        let x : Reads f at (Whole i) = subst (Reads f at) g (join.fetched at (omega arith)) in
        let z = join.ends in
        rw (ne_eqb at f.endpos (omega arith))
        (ap (λ (r : Read). core_go_on (core_walk a w f n) (core_turn a w f s r.value r.pos)) x.1
        ∙ ap (core_go_on (core_walk a w f n)) (turn-whole f s i.opcode x.0 i.operand (end_of i) (law.stands _ _ g).known x.2 x.3)
        ∙ ap (λ (c : ℕ). core_go_on (core_walk a w f n) (whole a w f s i.operand (end_of i) c)) e)

    -- a MATCH goes on in both, or ends both with the default
    same_matching : (s : Pointer) (t : Walker) (i : Instruction) → s.default ≡ t.default
        → (k : Pointer → CoreAnswer) (k' : Walker → Walked)
        → k (record { pos = end_of i; bits = s.bits - length_of i.operand; default = s.default })
        ≡ Number (k' (record { at = end_of i; used = t.used + length_of i.operand; width = t.width; default = t.default })).number
        → (c : Compared) → core_go_on k (core_matched a w s i.operand (end_of i) (equal c)) ≡ Number (go_on k' (meeting t i c)).number
    same_matching s t i e k k' h Equal = h
    same_matching s t i e k k' h (Different x) = ap Number e

    same_number : {b : Previous} {at left end : ℕ} {is : List Instruction} → Tree m b at left end is
        → (n u d : ℕ) → end ≤ at + n → u + left ≡ w
        → core_walk a w f n (record { pos = at; bits = left; default = d })
        ≡ Number (walk_from a m n (record { at = at; used = u; width = w; default = d })).number
    unfolding enough
    same_number t zero u d h k = let a' = forward m law t in absurd (omega arith)
    same_number {left} (return {i} g e q) (suc n) u d h k =
        let s = law.stands _ _ g in
        rw (core_at n RETURN left d i g (omega arith) e, walk_at a m law w n RETURN u d i g e)
    same_number {b} {left} (jump {i} g e q t t') (suc n) u d h k =
        let s = law.stands _ _ g in
        let a' = forward m law t' in
        let y = join.ends in
        let z : w - left ≡ u = omega arith in
        rw (
          core_at n JUMP left d i g (omega arith) e,
          walk_at a m law w n JUMP u d i g e,
          lt-ltb u w (omega arith),
          ne_eqb left 0 (omega arith),
          lt-leb (f.endpos - end_of i) i.operand (omega arith),
          z,
        )
        (elim (eqb (a u) 1)
        as (λ (x : Bool). core_walk a w f n (record { pos = cond x (target_of i) (end_of i); bits = left - 1; default = d })
        ≡ Number (walk_from a m n (record { at = cond x (target_of i) (end_of i); used = suc u; width = w; default = d })).number)
        [ true ↦ same_number {b = Other} t' n (suc u) d (omega arith) (omega arith) | false ↦ same_number {b = Other} t n (suc u) d (omega arith) (omega arith) ])
    same_number {at} {left} (match {i} g e q p t) (suc n) u d h k =
        let s = law.stands _ _ g in
        let a' = forward m law t in
        rw (
          core_at n MATCH left d i g (omega arith) e,
          walk_at a m law w n MATCH u d i g e,
          le-leb (u + length_of i.operand) w (omega arith),
          le-ltb left (length_of i.operand) q,
          same_compared (length_of i.operand) i.operand u left k q,
        )
        (same_matching (record { pos = at; bits = left; default = d }) (record { at = at; used = u; width = w; default = d }) i refl
        (core_walk a w f n) (walk_from a m n)
        (same_number t n (u + length_of i.operand) d (omega arith) (omega arith))
        (compared a (length_of i.operand) i.operand u))
    same_number {left} (default {i} g e q t) (suc n) u d h k =
        let s = law.stands _ _ g in
        let a' = forward m law t in
        rw (core_at n DEFAULT left d i g (omega arith) e, walk_at a m law w n DEFAULT u d i g e)
        (same_number t n u i.operand (omega arith) k)

-- demand 2, the number: Core's Interpret answers it, and does not leave its loop
pub core-number : (m : Map) (f : File) → Joined m f → Laws m → (w c d : ℕ) → check m w ≡ Accepted c d
    → (a : ℕ → ℕ) → core_interpret a w f ≡ Number (walk a m w).number
unfolding core_interpret walk
core-number m f join law w c d h a =
    let p = program m law w h in
    let a' = forward m law p.tree in
    ap (λ (n : ℕ). core_walk a w f n (record { pos = 0; bits = w; default = 0 })) join.ends
    ∙ same_number a w m f join law p.tree m.bits 0 0 (omega arith) (omega arith)
