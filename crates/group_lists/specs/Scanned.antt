-- What the occupied scan came to: the first hit's place, or none, and how many groups were read.
-- Assumes nothing.
use Rattle.std.specs.Prelude.{ℕ, Some, None, Result, Ok}
use Rattle.refusals.specs.declared.Refusal.{Refusal}
use Rattle.group_lists.specs.declared.Scan.{Scan}

abbrev pub Hit : ℕ → ℕ → Result Scan Refusal
Hit place read = Ok (record { hit = Some place; read = read })

abbrev pub Missed : ℕ → Result Scan Refusal
Missed read = Ok (record { hit = None; read = read })
