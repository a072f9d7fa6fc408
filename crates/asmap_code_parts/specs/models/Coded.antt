-- What is found of a value in a row: how many bits stand before the size's own, and the parts of its code; or that the row does not have it.
-- Assumes nothing.
use Rattle.std.specs.Prelude.{ℕ, Option, Some, None}
use Rattle.asmap_code_parts.specs.declared.Parts.{Parts}

pattern abbrev pub In : ℕ → Parts → Option (ℕ × Parts)
In prefix parts = Some (prefix, parts)

pattern abbrev pub Out : Option (ℕ × Parts)
Out = None
