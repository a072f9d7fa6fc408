-- The numbers that check and walk hand out (document 01, Check, Walk).
-- Assumes nothing.
use Rattle.std.specs.Prelude.{ℕ, List, ◌∷◌, [], Result, Ok, Err, Option, Some, None}
use Rattle.asmap_program.specs.declared.Kind.{Kind}
use Rattle.asmap_program.specs.declared.Kind.TheVariants.{Returned, Differed, OpcodeCut, OperandCut, TooFewBits}
use Rattle.asmap_program.specs.Map.{Opcode, Operand, cut_reason}
use Rattle.asmap_walk_bits.specs.declared.Ending.{Ending}
use Rattle.answer_outcome.specs.Outcome.{Outcome, Done, No}
use Rattle.asmap_program.specs.declared.Accepted.{Accepted}
use Rattle.asmap_check.specs.declared.Stop.{Stop}
use Rattle.refusals.specs.declared.Fault.{Fault}
use Rattle.refusals.specs.declared.Refusal.{Refusal}
use Rattle.refusals.specs.Numbers.{fault_number, refusal_number}

-- A map that was checked: the count of its instructions, and the greatest number of jumps open at once.
unfoldable pub map_checked : Result Accepted Refusal → Outcome
map_checked (Ok got) = Done (got.count ∷ got.depth ∷ [])
map_checked (Err e) = No (refusal_number e)

-- The number of what a check found wrong: 0 where that is nothing.
abbrev pub wrong_number : Option Fault → ℕ
wrong_number None = 0
wrong_number (Some f) = fault_number f

-- A map whose check was followed to where it stops: the number of what is wrong there, and the place.
unfoldable pub check_stopped : Result Stop Refusal → Outcome
check_stopped (Ok s) = Done (wrong_number s.wrong ∷ s.place ∷ [])
check_stopped (Err e) = No (refusal_number e)

-- The number of each kind of end. A walk that met a cut code has that cut's number, 4 or 19 (document 02, CR 5).
abbrev pub kind_number : Kind → ℕ
kind_number Returned = 1
kind_number Differed = 2
kind_number TooFewBits = 3
kind_number OpcodeCut = fault_number (cut_reason Opcode)
kind_number OperandCut = fault_number (cut_reason Operand)

-- The numbers of an ending: its kind, its number, the instructions that the walk read whole, and the address bits that it read.
abbrev pub end_numbers : Ending → List ℕ
end_numbers e = kind_number e.kind ∷ e.number ∷ e.count ∷ e.bits ∷ []

-- A walk that was made.
unfoldable pub walk_made : Result Ending Refusal → Outcome
walk_made (Ok ending) = Done (end_numbers ending)
walk_made (Err e) = No (refusal_number e)
