-- The check with the pieces of a listing counted (document 02, CR 1). Nothing of it has to be believed: what a listing is, and how long, says
-- `asmap_listing/specs/Listing.antt`.
-- Assumes nothing.
use Rattle.std.specs.Prelude.{ℕ, ◌≤◌, List, Result, Ok, Err}
use Rattle.asmap_program.specs.Check.{unpacked}
use Rattle.asmap_program.specs.models.Pieces.{count_pieces}
use Rattle.asmap_codes.specs.Instruction.{map_of}
use Rattle.asmap_check_run.specs.models.State.{most}
use Rattle.asmap_check.specs.Check.{check_of}
use Rattle.asmap_program.specs.Verdict.{Verdict}
use Rattle.refusals.specs.declared.Fault.{Fault}

-- a verdict, with so many pieces where it accepts
abbrev pub counted_as : ℕ → Verdict → Result ℕ Fault
counted_as n (Ok got) = Ok n
counted_as n (Err r) = Err r

-- the pieces of the instructions that the check over w address bits passes, where it accepts the map
abbrev pub counted_of : List ℕ → ℕ → Result ℕ Fault
counted_of m w = counted_as (count_pieces (unpacked (map_of m) w)) (check_of m w)

-- pieces are few enough for their records' bytes to be counted
abbrev pub Few : Result ℕ Fault → Type 0
Few (Ok n) = n ≤ most
Few (Err r) = Unit {0}
