-- Records (document 01, Unpack and pack): 16 bytes for each instruction. Assumes nothing.
use Rattle.std.specs.Prelude.{ℕ, Bool, ◌&&◌, List, [], ◌∷◌, ◌++◌, eqb, get_or}
use Rattle.byte_numbers.specs.Numbers.{bytes4}
use Rattle.asmap_program.specs.declared.Instruction.{Instruction}

-- The three bytes after the opcode's are zero.
abbrev pub zeros3 : List ℕ → Bool
zeros3 l = eqb (get_or l 1 0) 0 && eqb (get_or l 2 0) 0 && eqb (get_or l 3 0) 0

-- The record of an instruction: its opcode in one byte, three zeros, its operand, its place and its length in bits.
abbrev pub record_of : Instruction → List ℕ
record_of i = (i.opcode ∷ 0 ∷ 0 ∷ 0 ∷ []) ++ bytes4 i.operand ++ bytes4 i.place ++ bytes4 i.size

-- The records of instructions, one after the other.
abbrev pub records_of : List Instruction → List ℕ
records_of [] = []
records_of (i ∷ is) = record_of i ++ records_of is
