-- What the check answers for a list of bytes (document 01, Check and "What a call hands back").
-- Assumes nothing.
use Rattle.std.specs.Prelude.{ℕ, ◌≤◌, Bool, true, false, ◌≡◌, ◌⊎◌, List, ltb, length, Option, Some, None, Result, Err, Ok}
use Rattle.refusals.specs.declared.Refusal.{Refusal}
use Rattle.refusals.specs.Numbers.{of_map}
use Rattle.asmap_program.specs.declared.Accepted as struct
use Rattle.asmap_program.specs.Map.{limit}
use Rattle.asmap_program.specs.Widths.{is_width, at_width}
use Rattle.asmap_program.specs.Check.{accepted, check, stop_of}
use Rattle.asmap_program.specs.Core.{core_check}
use Rattle.asmap_codes.specs.Instruction.{map_of}
use Rattle.asmap_codes.specs.Core.{file_of}
use Rattle.asmap_program.specs.Verdict.{Verdict}
use Rattle.asmap_check.specs.declared.Stop.{Stop}
use Rattle.asmap_check.specs.Stop.{At}
use Rattle.refusals.specs.declared.Fault.{Fault}
use Rattle.refusals.specs.declared.Fault.TheVariants as fault

-- refused 1 where the test holds
abbrev pub unless_long : Bool → Verdict → Verdict
unless_long true v = Err fault.MapTooLong
unless_long false v = v

-- The check of a map's bytes over w address bits ("Order"): a map over the limit is 1, which comes before every other reason; any other
-- map is checked instruction by instruction.
abbrev pub check_of : List ℕ → ℕ → Verdict
check_of m w = unless_long (ltb limit (length m)) (check (map_of m) w)

-- The numbers of what the check finds wrong with a map within the limit: document 01's 2 to 10, and 19 for a cut operand (document 02, CR 5).
abbrev pub Reason : ℕ → Type 0
Reason n = ((2 ≤ n) × (n ≤ 10)) ⊎ (n ≡ 19)

-- The check at a width (document 02, CR 3): 18, first of all, for a width that is neither 32 nor 128.
abbrev pub check_at : List ℕ → ℕ → Result struct.Accepted Refusal
check_at m w = at_width w Err (of_map (check_of m w))

-- Core's SanityCheckASMap (the paper core-asmap.md) over w address bits accepts a map within the limit exactly where r does. The limit is
-- document 01's; Core has none.
abbrev pub LikeCore : {E : Type 0} → List ℕ → ℕ → Result struct.Accepted E → Type 0
LikeCore m w r = length m ≤ limit → core_check (file_of m) w ≡ accepted r

-- the same at 32 and at 128
abbrev pub LikeCoreAt : List ℕ → ℕ → Result struct.Accepted Refusal → Type 0
LikeCoreAt m w r = is_width w ≡ true → LikeCore m w r

-- What a verdict finds wrong: nothing where it accepts.
abbrev pub wrong_of : Verdict → Option Fault
wrong_of (Ok got) = None
wrong_of (Err f) = Some f

-- refused 1 where the test holds
abbrev pub stops_unless_long : Bool → Result Stop Fault → Result Stop Fault
stops_unless_long true s = Err fault.MapTooLong
stops_unless_long false s = s

-- Where the check of a map's bytes over w address bits stops: with what is wrong, and at which place. A map over the limit is 1.
abbrev pub stopped_of : List ℕ → ℕ → Result Stop Fault
stopped_of m w = stops_unless_long (ltb limit (length m)) (At (wrong_of (check (map_of m) w)) (stop_of (map_of m) w))

-- the same at a width: 18 where it is none
abbrev pub stopped_at : List ℕ → ℕ → Result Stop Refusal
stopped_at m w = at_width w Err (of_map (stopped_of m w))
