-- Addresses compared by their halves, as the numbers are that they make. Assumes nothing.
use Rattle.std.proofs.Common.{◌≡◌, ◌^◌, ◌<◌, ◌&&◌, eqb, arith}
use Rattle.std.proofs.lemmas.Bool.Decides.{nat_tests}
use Rattle.prefix_records.specs.declared.Address.{Address}
use Rattle.prefix_records.specs.models.Cursor.{value_of}

-- they are one exactly where their numbers are
pub same_address : (a b : Address) → a.low < 2 ^ 64 → b.low < 2 ^ 64 → (eqb a.high b.high && eqb a.low b.low) ≡ eqb (value_of a) (value_of b)
same_address a b r s = grind (arith, nat_tests)
