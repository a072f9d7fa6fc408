-- Where the check of a map stops: at a place, with what is wrong there, or nothing where it accepts.
-- Assumes nothing.
use Rattle.std.specs.Prelude.{ℕ, Option, Result, Ok}
use Rattle.refusals.specs.declared.Fault.{Fault}
use Rattle.asmap_check.specs.declared.Stop.{Stop}

abbrev pub At : Option Fault → ℕ → Result Stop Fault
At wrong place = Ok (record { wrong = wrong; place = place })
