-- Codes that were read, taken apart: two that are the same are so in value and in the bit after them.
-- Assumes nothing.
use Prim.Native.Nat.{ℕ}
use mathlib.Core.Path.{◌≡◌, ap}
use Rattle.std.specs.Prelude.{Option, Result, Err, Some, None}
use Rattle.refusals.specs.declared.Fault.{Fault}
use Rattle.asmap_codes.specs.Reading.{Code, Value, Found}

-- a code that was read; none is read as 0 and 0
code_in : Option Code → Code
code_in (Some c) = c
code_in None = (0, 0)

pub value-same : {v n v' n' : ℕ} → Value v n ≡ Value v' n' → (v ≡ v') × (n ≡ n')
unfolding code_in
value-same e = (ap (λ c. (code_in c).0) e, ap (λ c. (code_in c).1) e)

found_in : Result Code Fault → Code
found_in (Found v n) = (v, n)
found_in (Err f) = (0, 0)

pub found-same : {v n v' n' : ℕ} → Found v n ≡ Found v' n' → (v ≡ v') × (n ≡ n')
unfolding found_in
found-same e = (ap (λ c. (found_in c).0) e, ap (λ c. (found_in c).1) e)
