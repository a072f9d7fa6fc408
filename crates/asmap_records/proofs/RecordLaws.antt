-- Laws of records: a buffer's front, and the numbers that a record's bytes are. Assumes nothing.
use mathlib.Core.Path.{◌≡◌, ◌∙◌, refl, sym, ap}
use mathlib.Core.Bool.{Bool, true, false, ◌&&◌}
use mathlib.Core.List.{List, [], ◌∷◌, ◌++◌}
use Prim.Native.Nat.{ℕ, ◌+◌, ◌*◌, ◌≤◌, ◌<◌}
use native.Mathlib.Omega.{arith}
use borrow.Author.Tests.{eq-eqb, eqb-true}
use lib.Dec.{eqb}
use lib.ListN.{length, get_or, drop, length-append}
use lib.Seq.{sets, sets-eq}
use Rattle.asmap_program.specs.declared.Instruction.{Instruction}
use Rattle.byte_numbers.specs.Numbers.{bytes4, number4}
use Rattle.byte_numbers.proofs.NumberLaws.{small_bytes}
use Rattle.byte_numbers.proofs.Buffers.{sets-append_at}
use Rattle.asmap_records.specs.Record.{zeros3, record_of, records_of}

-- ---- bytes in a buffer

-- all of a buffer's front
pub sets_front : (o b : List ℕ) → length b ≤ length o → sets o 0 b ≡ b ++ drop (length b) o
sets_front o b h = let e : 0 + length b ≡ length b = omega arith in sets-eq b o 0 (omega arith) ∙ rw e

pub length_records : (is : List Instruction) → length (records_of is) ≡ 16 * length is
length_records [] = refl
length_records (i ∷ is) = omega (arith, length-append (record_of i) (records_of is), length_records is)

-- a record's four numbers, one after the other
pub record-sets : (o : List ℕ) (at : ℕ) (i : Instruction) → i.opcode < 256
    → sets (sets (sets (sets o at (bytes4 i.opcode)) (at + 4) (bytes4 i.operand)) (at + 8) (bytes4 i.place)) (at + 12) (bytes4 i.size)
    ≡ sets o at (record_of i)
record-sets o at i h =
    let x = bytes4 i.operand in
    let p = bytes4 i.place in
    let n = bytes4 i.size in
    let z : List ℕ = i.opcode ∷ 0 ∷ 0 ∷ 0 ∷ [] in
    ap (λ (y : List ℕ). sets (sets (sets (sets o at y) (at + 4) x) (at + 8) p) (at + 12) n) (small_bytes i.opcode h)
    ∙ sym (sets-append_at o at (at + 4) z (x ++ p ++ n) refl
    ∙ sets-append_at (sets o at z) (at + 4) (at + 8) x (p ++ n) (omega arith)
    ∙ sets-append_at (sets (sets o at z) (at + 4) x) (at + 8) (at + 12) p n (omega arith))

-- ---- the three zeros

pub and_both : (a b : Bool) → (a && b) ≡ true → (a ≡ true) × (b ≡ true)
and_both true b e = (refl, e)
and_both false b e = let z : ◌≡◌ {A = ℕ} 0 1 = cc in absurd (omega arith)

all_three : (a b c : ℕ) → a + b + c ≡ 0 → (eqb a 0 && eqb b 0 && eqb c 0) ≡ true
all_three a b c h = rw (eq-eqb a 0 (omega arith), eq-eqb b 0 (omega arith), eq-eqb c 0 (omega arith))

three_all : (a b c : ℕ) → (eqb a 0 && eqb b 0 && eqb c 0) ≡ true → a + b + c ≡ 0
three_all a b c e =
    let p = and_both (eqb a 0 && eqb b 0) (eqb c 0) e in
    let q = and_both (eqb a 0) (eqb b 0) p.0 in
    omega (arith, eqb-true a 0 q.0, eqb-true b 0 q.1, eqb-true c 0 p.1)

module _ (l : List ℕ) where
  -- where they stand the first four bytes are the opcode's number
  pub zeros-first : zeros3 l ≡ true → number4 l 0 ≡ get_or l 0 0
  zeros-first e = let z = three_all (get_or l 1 0) (get_or l 2 0) (get_or l 3 0) e in omega arith

  -- and where the first four bytes are, they stand
  pub first-zeros : number4 l 0 ≡ get_or l 0 0 → zeros3 l ≡ true
  first-zeros h = all_three (get_or l 1 0) (get_or l 2 0) (get_or l 3 0) (omega arith)

  pub first_wrong : (number4 l 0 ≡ get_or l 0 0 → ⊥) → zeros3 l ≡ false
  first_wrong h = go (zeros3 l) refl
    where
      go : (b : Bool) → zeros3 l ≡ b → b ≡ false
      go true e = absurd (h (zeros-first e))
      go false e = refl
