-- What the check does at an instruction, on numbers: the model that the arms of the code equal. Nothing of it has to be believed:
-- `asmap_check_run/proofs/ActLaws.antt` shows that it is the step of asmap_program's check.
-- Assumes nothing.
use Rattle.std.specs.Prelude.{ℕ, zero, suc, ◌+◌, Bool, true, false, not, cond, ◌&&◌, List, leb, ltb, eqb, Option, Result}
use Rattle.asmap_program.specs.declared.Previous.{Previous}
use Rattle.asmap_program.specs.Map.{Opcode, Operand, cut_reason, length_of}
use Rattle.asmap_program.specs.Check.{is_default, is_short}
use Rattle.asmap_codes.specs.Row.{type_row, operand_row}
use Rattle.asmap_codes.specs.Code.{code_at}
use Rattle.asmap_codes.specs.Instruction.{padded_from}
use Rattle.asmap_check_act.specs.declared.Act.{Act}
use Rattle.asmap_check_act.specs.models.Acts.{Opens, Closes, Uses, Keeps, Accepts, Refuses}
use Rattle.asmap_codes.specs.Reading.{Code, Cut, Value}
use Rattle.refusals.specs.declared.Fault.{Fault}
use Rattle.refusals.specs.declared.Fault.TheVariants as fault

-- p lies at or past the innermost open target t; d: the depth
abbrev pub past_top : ℕ → ℕ → ℕ → Bool
past_top d t p = ltb 0 d && leb t p

-- where the test holds, refused with n
unfoldable pub refusing : Bool → Fault → Result Act Fault → Result Act Fault
refusing true n a = Refuses n
refusing false n a = a

-- In each: p, what stood before; bits, the address bits left; d, the depth; t, the innermost target; then the operand as it was read, a
-- value v and the place n after it.

-- RETURN and DEFAULT, unless straight after a DEFAULT
abbrev pub returned : List ℕ → ℕ → ℕ → Option Code → Result Act Fault
returned m d t Cut = Refuses (cut_reason Operand)
returned m d t (Value v n) = cond (eqb d 0) (refusing (not (padded_from m n)) fault.Padding Accepts) (refusing (not (eqb n t)) fault.NotAtTarget (Closes n))

abbrev pub kept : Option Code → Result Act Fault
kept Cut = Refuses (cut_reason Operand)
kept (Value v n) = Keeps n

abbrev pub on_return : List ℕ → Previous → ℕ → ℕ → Option Code → Result Act Fault
on_return m p d t c = refusing (is_default p) fault.AfterDefault (returned m d t c)

abbrev pub on_default : Previous → Option Code → Result Act Fault
on_default p c = refusing (is_default p) fault.AfterDefault (kept c)

abbrev pub on_jump : ℕ → ℕ → ℕ → Option Code → Result Act Fault
on_jump bits d t Cut = Refuses (cut_reason Operand)
on_jump bits d t (Value v n) = refusing (eqb bits 0) fault.NoBits (refusing (past_top d t (n + v)) fault.TargetsCross (Opens n (n + v)))

abbrev pub on_match : Previous → ℕ → Option Code → Result Act Fault
on_match p bits Cut = Refuses (cut_reason Operand)
on_match p bits (Value v n) = refusing (ltb (length_of v) 8 && is_short p) fault.ShortMatches (refusing (ltb bits (length_of v)) fault.NoBits (Uses n (length_of v)))

-- an operand, by its opcode
abbrev pub on_operand : List ℕ → Previous → ℕ → ℕ → ℕ → ℕ → Option Code → Result Act Fault
on_operand m p bits d t zero c = on_return m p d t c
on_operand m p bits d t (suc zero) c = on_jump bits d t c
on_operand m p bits d t (suc (suc zero)) c = on_match p bits c
on_operand m p bits d t (suc (suc (suc n))) c = on_default p c

-- an opcode as it was read
abbrev pub on_opcode : List ℕ → Previous → ℕ → ℕ → ℕ → Option Code → Result Act Fault
on_opcode m p bits d t Cut = Refuses (cut_reason Opcode)
on_opcode m p bits d t (Value op n) = on_operand m p bits d t op (code_at m n (operand_row op))

-- the instruction at a place inside the map
abbrev pub acts : List ℕ → Previous → ℕ → ℕ → ℕ → ℕ → Result Act Fault
acts m p bits d t place = refusing (past_top d t place) fault.PastTarget (on_opcode m p bits d t (code_at m place type_row))
