-- Request 5, cut opcode or cut operand, as a caller of two calls reads it (document 02, CR 5): "The decoder now reports which."
-- Assumes nothing.
use Rattle.std.specs.Prelude.{ℕ, ◌≡◌, ◌≢◌}

-- A caller reads an opcode and then the instruction at the same bit of a map; q and r are the two answers. Where no opcode is there, the instruction
-- is refused for that; where one is there and the instruction is refused, its operand is cut.
pub record WhichIsCut (q r : ℕ) : Type 0 where
  pub opcode : q ≡ 4 → r ≡ 4
  pub operand : q ≡ 0 → r ≢ 0 → r ≡ 19

-- "Check … hand it on as their reason": a caller asks where the check stops, and reads the instruction there. r is the answer of the read, or 1 where
-- the map is too long. Where the check's reason is a cut code, the read is refused with that number.
pub record HandedOn (reason r : ℕ) : Type 0 where
  pub opcode : r ≢ 1 → reason ≡ 4 → r ≡ 4
  pub operand : r ≢ 1 → reason ≡ 19 → r ≡ 19
