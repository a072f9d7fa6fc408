-- A map of bytes, as asmap_program speaks of maps: what stands at a place, what may follow the final RETURN, and what reading
-- an instruction hands back. Assumes nothing.
use Rattle.std.specs.Prelude.{ℕ, ◌-◌, ◌*◌, Bool, true, false, ◌&&◌, List, leb, ltb, length, drop, Result, Ok, Err, Option}
use Rattle.asmap_program.specs.Map.{Map, Fetched, Whole, CutOpcode, CutOperand, Opcode, Operand, cut_reason, limit}
use Rattle.asmap_codes.specs.Bits.{map_bits, all_zero}
use Rattle.asmap_codes.specs.Row.{type_row, operand_row}
use Rattle.asmap_codes.specs.Code.{code_at}
use Rattle.asmap_codes.specs.Reading.{Code, Cut, Value}
use Rattle.asmap_program.specs.declared.Instruction.{Instruction}
use Rattle.refusals.specs.declared.Fault.{Fault}
use Rattle.refusals.specs.declared.Fault.TheVariants as fault

-- An opcode read at p, with its operand's code, which ends at e (document 01, Walk: place and length in bits).
abbrev pub with_operand : ℕ → ℕ → Option Code → Fetched
with_operand p op Cut = CutOperand op
with_operand p op (Value v e) = Whole (record { opcode = op; operand = v; place = p; size = e - p })

-- The operand's code starts where the opcode's ends.
abbrev pub with_opcode : List ℕ → ℕ → Option Code → Fetched
with_opcode m p Cut = CutOpcode
with_opcode m p (Value op e) = with_operand p op (code_at m e (operand_row op))

-- What stands at a place of a map's bytes (document 01, Codes): an opcode, and straight after it the operand of its row.
unfoldable pub fetch_at : List ℕ → ℕ → Fetched
fetch_at m p = with_opcode m p (code_at m p type_row)

-- What may follow the final RETURN (document 01, Check): from p on at most 7 bits, none of them 1.
unfoldable pub padded_from : List ℕ → ℕ → Bool
padded_from m p = leb (8 * length m - p) 7 && all_zero (drop p (map_bits m))

-- The map that bytes are.
unfoldable pub map_of : List ℕ → Map
map_of m = record { fetch = fetch_at m; bits = 8 * length m; padded = padded_from m }

-- An instruction as it is handed back (document 01, "What a call hands back"): refused 1 for a map over the limit, then by
-- what stands at the place.
abbrev pub answered_whole : Bool → Fetched → Result Instruction Fault
answered_whole true f = Err fault.MapTooLong
answered_whole false (Whole i) = Ok i
answered_whole false CutOpcode = Err (cut_reason Opcode)
answered_whole false (CutOperand op) = Err (cut_reason Operand)

-- Reading an instruction, for every map and every bit of it or past it.
unfoldable pub read_instruction : List ℕ → ℕ → Result Instruction Fault
read_instruction m at = answered_whole (ltb limit (length m)) (fetch_at m at)
