-- What the check of a map answers: that it accepts, with the count of instructions and the greatest depth, or what is wrong with the map.
-- Assumes nothing.
use Rattle.std.specs.Prelude.{ℕ, Result, Ok}
use Rattle.refusals.specs.declared.Fault.{Fault}
use Rattle.asmap_program.specs.declared.Accepted as struct

abbrev pub Verdict : Type 0
Verdict = Result struct.Accepted Fault

-- accepted, with so many instructions and this greatest depth
abbrev pub Accepted : ℕ → ℕ → Verdict
Accepted count depth = Ok (record { count = count; depth = depth })
