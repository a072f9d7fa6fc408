-- A list that may be built from, as the answer of whoever judges it.
-- Assumes nothing.
use Rattle.std.specs.Prelude.{Result, Ok}
use Rattle.refusals.specs.declared.Refusal.{Refusal}

pattern abbrev pub Listed : Result (Unit {0}) Refusal
Listed = Ok (record {})
