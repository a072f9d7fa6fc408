-- Instructions worked out by hand from document 01, Codes, and computed: they pin the order of bits in a byte, in a mantissa
-- and in a code, which the laws alone would let turn round on both sides.
-- Assumes nothing.
use mathlib.Core.Path.{◌≡◌, refl}
use mathlib.Core.List.{List, [], ◌∷◌, map}
use Prim.Native.Nat.{ℕ}
use Rattle.asmap_program.specs.Map.{Fetched, Whole, CutOpcode, CutOperand}
use Rattle.asmap_codes.specs.Encode.{instruction_bits}
use Rattle.asmap_codes.specs.Instruction.{fetch_at}

-- 00 00 00: RETURN 1. 01: JUMP 17. 09: JUMP 33, its mantissa 10000. 4b: MATCH 5, its prefix 10 and mantissa 01. An empty map
-- has no opcode; fb ends in the prefix of a MATCH.
abbrev pub inputs : List (List ℕ)
inputs = (0 ∷ 0 ∷ 0 ∷ []) ∷ (1 ∷ []) ∷ (9 ∷ []) ∷ (75 ∷ []) ∷ [] ∷ (251 ∷ []) ∷ []

abbrev pub answers : List Fetched
answers =
    Whole (record { opcode = 0; operand = 1; place = 0; size = 17 })
    ∷ Whole (record { opcode = 1; operand = 17; place = 0; size = 8 })
    ∷ Whole (record { opcode = 1; operand = 33; place = 0; size = 8 })
    ∷ Whole (record { opcode = 2; operand = 5; place = 0; size = 7 })
    ∷ CutOpcode
    ∷ CutOperand 2
    ∷ []

pub fetched_by_hand : map (λ (m : List ℕ). fetch_at m 0) inputs ≡ answers
unfolding fetch_at
fetched_by_hand = refl

pub written_by_hand : instruction_bits 1 33 ≡ 1 ∷ 0 ∷ 0 ∷ 1 ∷ 0 ∷ 0 ∷ 0 ∷ 0 ∷ []
unfolding instruction_bits
written_by_hand = refl
