-- What reading a code comes to: its value and the bit after it; or none, where the map's end cuts it. And what a call that reads one hands
-- back: the same, or what is wrong with the map.
-- Assumes nothing.
use Rattle.std.specs.Prelude.{ℕ, Option, Some, None, Result, Ok}
use Rattle.refusals.specs.declared.Fault.{Fault}

-- a value, and the bit after its code
abbrev pub Code : Type 0
Code = ℕ × ℕ

pattern abbrev pub Value : ℕ → ℕ → Option Code
Value v next = Some (v, next)

pattern abbrev pub Cut : Option Code
Cut = None

pattern abbrev pub Found : ℕ → ℕ → Result Code Fault
Found v next = Ok (v, next)
