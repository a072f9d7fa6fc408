-- The listing calls (document 02, CR 1): records of what a map lists; "refuses as unpack does", the check's refusals first. Over the width w in
-- address bits. What the check finds wrong is passed on, whatever it is.
-- Assumes nothing.
use Rattle.std.specs.Prelude.{ℕ, List, length, Result, Ok, Err}
use Rattle.asmap_program.specs.Widths.{at_width}
use Rattle.asmap_codes.specs.Instruction.{map_of}
use Rattle.asmap_check.specs.Check.{check_of}
use Rattle.asmap_records.specs.Output.{Making, Made, No}
use Rattle.prefix_records.specs.Record.{records_of}
use Rattle.asmap_listing.specs.Listing.{listing}
use Rattle.asmap_program.specs.Verdict.{Verdict}
use Rattle.refusals.specs.declared.Refusal.{Refusal}
use Rattle.refusals.specs.declared.Refusal.TheVariants as refusal

-- By the check's verdict: refused as it says, or the records of the map's listing.
abbrev pub list_as : List ℕ → Verdict → Making
list_as m (Ok got) = Made (records_of (listing (map_of m)))
list_as m (Err f) = No (refusal.Map f)

-- The bytes that the listing makes of a map's.
unfoldable pub list_of : List ℕ → ℕ → Making
list_of m w = list_as m (check_of m w)

-- How many bytes are made, or why none are.
abbrev pub bytes_of : Making → Result ℕ Refusal
bytes_of (Made bs) = Ok (length bs)
bytes_of (No n) = Err n

-- The bytes that a listing needs.
abbrev pub needed_of : List ℕ → ℕ → Result ℕ Refusal
needed_of m w = bytes_of (list_of m w)

-- Both at a width (document 02, CR 3): 18 where it is none.
abbrev pub list_at : List ℕ → ℕ → Making
list_at m w = at_width w No (list_of m w)

abbrev pub needed_at : List ℕ → ℕ → Result ℕ Refusal
needed_at m w = bytes_of (list_at m w)
