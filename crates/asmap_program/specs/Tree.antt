-- What a program is as a whole (the reading of document 01, Check, as a tree): the shape that the check accepts, said without the check.
-- Assumes nothing.
use Rattle.std.specs.Prelude.{ℕ, ◌-◌, ◌≤◌, ◌<◌, true, false, ◌&&◌, ◌≡◌, ltb}
use mathlib.Core.List.{List, [], ◌∷◌, ◌++◌, Memᴰ}
use Rattle.asmap_program.specs.declared.Instruction.{Instruction}
use Rattle.asmap_program.specs.declared.Previous.{Previous}
use Rattle.asmap_program.specs.declared.Previous.TheVariants.{Other, Default}
use Rattle.asmap_program.specs.Map.{RETURN, JUMP, MATCH, DEFAULT, end_of, target_of, Whole, Map, length_of}
use Rattle.asmap_program.specs.Check.{is_default, is_short, after_match}

module _ (m : Map) where
  -- Tree before at left end is: read from `at` with `left` address bits, after `before`, the instructions `is`, in order of place, are a
  -- program that ends at `end`. A RETURN is one. A JUMP has two halves with a bit less each: one from its own end exactly to its target,
  -- one from its target on. A MATCH uses as many bits as it is long, and no short one stands straight after another. A DEFAULT uses
  -- none, and neither a DEFAULT nor a RETURN stands straight after it.
  pub data Tree : Previous → ℕ → ℕ → ℕ → List Instruction → Type 0 where
    return : {b : Previous} {at left : ℕ} {i : Instruction}
        → m.fetch at ≡ Whole i → i.opcode ≡ RETURN → is_default b ≡ false
        → Tree b at left (end_of i) (i ∷ [])
    jump : {b : Previous} {at left end : ℕ} {i : Instruction} {is js : List Instruction}
        → m.fetch at ≡ Whole i → i.opcode ≡ JUMP → 1 ≤ left
        → Tree Other (end_of i) (left - 1) (target_of i) is
        → Tree Other (target_of i) (left - 1) end js
        → Tree b at left end (i ∷ (is ++ js))
    match : {b : Previous} {at left end : ℕ} {i : Instruction} {is : List Instruction}
        → m.fetch at ≡ Whole i → i.opcode ≡ MATCH → length_of i.operand ≤ left
        → (ltb (length_of i.operand) 8 && is_short b) ≡ false
        → Tree (after_match (length_of i.operand)) (end_of i) (left - length_of i.operand) end is
        → Tree b at left end (i ∷ is)
    default : {b : Previous} {at left end : ℕ} {i : Instruction} {is : List Instruction}
        → m.fetch at ≡ Whole i → i.opcode ≡ DEFAULT → is_default b ≡ false
        → Tree Default (end_of i) left end is
        → Tree b at left end (i ∷ is)

  -- The instructions `is` are the whole program of the map over w address bits: a tree from place 0 with w bits left, and the bits after
  -- its end may follow a final RETURN.
  pub record Program (w : ℕ) (is : List Instruction) : Type 0 where
    pub end : ℕ
    pub tree : Tree Other 0 w end is
    pub tail : m.padded end ≡ true

  -- Each JUMP among the instructions has its target before the map's end.
  abbrev pub JumpsInside : List Instruction → Type 0
  JumpsInside is = (i : Instruction) → Memᴰ i is → i.opcode ≡ JUMP → target_of i < m.bits
