-- A column by what is left of the number there: n / 10 ^ k with k columns to its right.
-- Assumes nothing.
use Rattle.std.specs.Prelude.{ℕ, cond, eqb}
use Rattle.decimal_columns.specs.Columns.{digit_byte}

-- a space where nothing is left
abbrev pub rest_byte : ℕ → ℕ
rest_byte rest = cond (eqb rest 0) 32 (digit_byte rest 0)
