-- The numbers that reading and writing codes hand out (document 01, Codes).
-- Assumes nothing.
use Rattle.std.specs.Prelude.{◌∷◌, [], Result, Ok, Err}
use Rattle.answer_outcome.specs.Outcome.{Outcome, Done, No}
use Rattle.asmap_codes.specs.Reading.{Code, Found}
use Rattle.asmap_program.specs.declared.Instruction.{Instruction}
use Rattle.asmap_encode.specs.declared.Word.{Word}
use Rattle.refusals.specs.declared.Fault.{Fault}
use Rattle.refusals.specs.declared.Refusal.{Refusal}
use Rattle.refusals.specs.Numbers.{fault_number, refusal_number}

-- A code that was read: its value, and the bit after it.
unfoldable pub code_read : Result Code Fault → Outcome
code_read (Found value next) = Done (value ∷ next ∷ [])
code_read (Err f) = No (fault_number f)

-- An instruction that was read: its opcode, its operand, and its length in bits.
unfoldable pub instruction_read : Result Instruction Fault → Outcome
instruction_read (Ok i) = Done (i.opcode ∷ i.operand ∷ i.size ∷ [])
instruction_read (Err f) = No (fault_number f)

-- Bits that were written: in a word, the first bit lowest, and how many they are.
unfoldable pub bits_written : Result Word Refusal → Outcome
bits_written (Ok w) = Done (w.bits ∷ w.len ∷ [])
bits_written (Err e) = No (refusal_number e)
