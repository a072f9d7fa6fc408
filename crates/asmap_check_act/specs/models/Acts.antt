-- What the check asks of its loop at an instruction, or what is wrong with the map there.
-- Assumes nothing.
use Rattle.std.specs.Prelude.{ℕ, Result, Ok, Err}
use Rattle.refusals.specs.declared.Fault.{Fault}
use Rattle.asmap_check_act.specs.declared.Act.{Act}
use Rattle.asmap_check_act.specs.declared.Act.TheVariants as act

pattern abbrev pub Opens : ℕ → ℕ → Result Act Fault
Opens next target = Ok (act.Opens next target)

pattern abbrev pub Closes : ℕ → Result Act Fault
Closes next = Ok (act.Closes next)

pattern abbrev pub Uses : ℕ → ℕ → Result Act Fault
Uses next bits = Ok (act.Uses next bits)

pattern abbrev pub Keeps : ℕ → Result Act Fault
Keeps next = Ok (act.Keeps next)

pattern abbrev pub Accepts : Result Act Fault
Accepts = Ok act.Accepts

pattern abbrev pub Refuses : Fault → Result Act Fault
Refuses f = Err f
