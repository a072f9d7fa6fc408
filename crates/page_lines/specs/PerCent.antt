-- The per cent of a part in tenths (document 02, CR 4): "100 × candidates of the group / all, rounded to a tenth, halves up". In whole numbers.
-- Assumes nothing.
use Rattle.std.specs.Prelude.{ℕ, suc, ◌*◌, ◌/◌, ◌%◌, cond, ltb}

-- of a quotient and the rest that a division by `all` leaves: one more where the rest is half of `all`, or over it
unfoldable pub rounded : ℕ → ℕ → ℕ → ℕ
rounded quotient rest all = cond (ltb (2 * rest) all) quotient (suc quotient)

-- tenths of a per cent are thousandths of all
unfoldable pub tenths : ℕ → ℕ → ℕ
tenths part all = rounded (1000 * part / all) (1000 * part % all) all
