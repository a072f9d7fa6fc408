-- Why the map of a call is refused (document 01, What a call hands back): each reason with its number.
-- Assumes nothing.
use Rattle.std.specs.Prelude.{ltb, length, Err, Option, Some, None, Ok}
use Rattle.peer_lists.specs.Refusal.{refuse_if}
use Rattle.asmap_program.specs.Map.{limit}
use Rattle.asmap_check.specs.Check.{check_of}
use Rattle.netgroup.specs.Group.{Numbering, by_map, by_prefixes, by_old_prefixes}
use Rattle.asmap_program.specs.Verdict.{Verdict}
use Rattle.refusals.specs.declared.Refusal.{Refusal}
use Rattle.refusals.specs.declared.Fault.TheVariants as fault
use Rattle.refusals.specs.declared.Refusal.TheVariants as refusal

-- a map taken as it is: 1 where it is longer than a map may be
abbrev pub limit_refusal : Numbering → Option Refusal
limit_refusal (by_map m) = refuse_if (ltb limit (length m)) (refusal.Map fault.MapTooLong)
limit_refusal by_prefixes = None
limit_refusal by_old_prefixes = None

abbrev pub verdict_refusal : Verdict → Option Refusal
verdict_refusal (Ok got) = None
verdict_refusal (Err f) = Some (refusal.Map f)

-- a map that the call checks: the check's reason, 1 to 10 or 19
abbrev pub check_refusal : Numbering → Option Refusal
check_refusal (by_map m) = verdict_refusal (check_of m 128)
check_refusal by_prefixes = None
check_refusal by_old_prefixes = None
