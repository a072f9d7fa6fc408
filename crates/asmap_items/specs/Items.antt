-- What is read at a place of a map, and where a reader stands after it (document 01, Forms and Codes).
-- Assumes nothing.
use Rattle.std.specs.Prelude.{ℕ, ◌+◌, ◌-◌, ◌*◌, cond, List, ltb, length, get_or, Result, Err, Option}
use Rattle.asmap_program.specs.Map.{limit}
use Rattle.asmap_program.specs.Map as part
use Rattle.asmap_codes.specs.Bits.{map_bits}
use Rattle.asmap_codes.specs.Row.{type_row, asn_row, match_row, jump_row}
use Rattle.asmap_codes.specs.Code.{pick, answered, read_code}
use Rattle.asmap_items.specs.declared.Item.{Item}
use Rattle.asmap_items.specs.declared.Item.TheVariants.{Bit, Opcode, Asn, Match, Jump}
use Rattle.asmap_codes.specs.Reading.{Code, Cut, Found, Value}
use Rattle.refusals.specs.declared.Fault.{Fault}

-- The bit at a place, and the place after it; no value at or past the map's end (document 01, Codes).
abbrev pub bit_at : List ℕ → ℕ → Option Code
bit_at m at = pick (ltb at (8 * length m)) (Value (get_or (map_bits m) at 0) (at + 1)) Cut

-- Reading one bit, with the refusals of reading an opcode: 1 for a map over the limit, then 4.
abbrev pub read_bit : List ℕ → ℕ → Result Code Fault
read_bit m at = answered part.Opcode (ltb limit (length m)) (bit_at m at)

-- Reading what a reader is asked for: a bit, or a code of the row.
abbrev pub read_item : List ℕ → ℕ → Item → Result Code Fault
read_item m at Bit = read_bit m at
read_item m at Opcode = read_code m at type_row
read_item m at Asn = read_code m at asn_row
read_item m at Match = read_code m at match_row
read_item m at Jump = read_code m at jump_row

-- Where a reader stands after a read: behind what was read; where it was, when the read was refused.
abbrev pub place_after : ℕ → Result Code Fault → ℕ
place_after at (Found v n) = n
place_after at (Err r) = at

-- How many bits can be read from a place on: none of a map over the limit, of which every read is refused.
abbrev pub bits_left : List ℕ → ℕ → ℕ
bits_left m at = cond (ltb limit (length m)) 0 (8 * length m - at)
