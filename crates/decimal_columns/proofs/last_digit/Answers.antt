-- `last_digit` meets its contract: the digit with none to its right is what is left of a division by ten.
use native.Mathlib.Nat.{pow-zero, div-one}
use Rattle.decimal_columns.specs.Columns.{digit_byte}
use Rattle.decimal_columns.proofs.last_digit.Goals as goal

pub returns : goal.returns
unfolding digit_byte
returns c = rw (pow-zero 10, div-one c.args.n)
