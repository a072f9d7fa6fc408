-- How many prefixes instructions tell apart (document 02, CR 1), for a check that counts them as it reads. Nothing of it has to be believed:
-- `asmap_listing/proofs/CountLaws.antt` shows that it is the length of the listing.
-- Assumes nothing.
use Rattle.std.specs.Prelude.{ℕ, zero, suc, ◌+◌, List, [], ◌∷◌}
use Rattle.asmap_program.specs.declared.Instruction.{Instruction}
use Rattle.asmap_program.specs.Map.{length_of}

-- an instruction, by its opcode: a RETURN gives one, a MATCH as many as it has bits, a JUMP and a DEFAULT none
abbrev pub pieces_at : Instruction → ℕ → ℕ
pieces_at i zero = 1
pieces_at i (suc zero) = 0
pieces_at i (suc (suc zero)) = length_of i.operand
pieces_at i (suc (suc (suc n))) = 0

abbrev pub pieces_of : Instruction → ℕ
pieces_of i = pieces_at i i.opcode

unfoldable pub count_pieces : List Instruction → ℕ
count_pieces [] = 0
count_pieces (i ∷ is) = pieces_of i + count_pieces is
