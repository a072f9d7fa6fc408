-- Unpack (document 01, Unpack and pack; Order: the check's refusals first). Over the width w in address bits. Assumes nothing.
use Rattle.std.specs.Prelude.{ℕ, List, Err, Ok}
use Rattle.asmap_program.specs.Widths.{at_width}
use Rattle.asmap_program.specs.Check.{unpacked}
use Rattle.asmap_codes.specs.Instruction.{map_of}
use Rattle.asmap_check.specs.Check.{check_of}
use Rattle.asmap_records.specs.Record.{records_of}
use Rattle.asmap_records.specs.Output.{Making, Made, No}
use Rattle.asmap_program.specs.Verdict.{Verdict}
use Rattle.refusals.specs.declared.Refusal.TheVariants as refusal

-- By the check's verdict: refused as it says, or the records of the map's instructions, in order.
abbrev pub unpack_as : List ℕ → ℕ → Verdict → Making
unpack_as m w (Ok got) = Made (records_of (unpacked (map_of m) w))
unpack_as m w (Err f) = No (refusal.Map f)

-- The bytes that unpack makes of a map's.
unfoldable pub unpack_of : List ℕ → ℕ → Making
unpack_of m w = unpack_as m w (check_of m w)

-- the same at a width (document 02, CR 3): 18 where it is none
abbrev pub unpack_at : List ℕ → ℕ → Making
unpack_at m w = at_width w No (unpack_of m w)
