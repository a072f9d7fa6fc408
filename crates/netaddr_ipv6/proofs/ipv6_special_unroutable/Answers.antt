-- The tests, in the order of the rows; the zeros at the end of two prefixes are runs.
use Rattle.std.proofs.Common.{ℕ, List, [], ◌∷◌, ◌≡◌, refl, sym}
use mathlib.Core.Bool.{◌&&◌}
use Rattle.netaddr_ranges.specs.Unroutable.{zeros}
use Rattle.netaddr_ranges.specs.Prefix.{groups, same_bytes}
use Rattle.netaddr_ranges.specs.Ranges.{special_rows}
use Rattle.netaddr_ranges.proofs.Order.{joined-decided}
use Rattle.netaddr_ipv6.proofs.Zeros.{zero_tail}
use Rattle.netaddr_ipv6.proofs.ipv6_special_unroutable.Goals as goal

benchmarking : (o : List ℕ) → (same_bytes 4 (groups 8 (0x2001 ∷ 0x2 ∷ [])) o && zeros 4 2 o) ≡ same_bytes 6 (groups 8 (0x2001 ∷ 0x2 ∷ [])) o
unfolding zeros
benchmarking o = sym (zero_tail 4 2 (groups 8 (0x2001 ∷ 0x2 ∷ [])) o refl)

discard : (o : List ℕ) → (same_bytes 2 (groups 8 (0x100 ∷ [])) o && zeros 2 6 o) ≡ same_bytes 8 (groups 8 (0x100 ∷ [])) o
unfolding zeros
discard o = sym (zero_tail 2 6 (groups 8 (0x100 ∷ [])) o refl)

pub returns : goal.returns
returns c = let o = c.args.o in
    rw (c.zero_bytes.ensures, c.zero_bytes-2.ensures, benchmarking o, discard o)
    (joined-decided special_rows o (refl, (refl, (refl, (refl, (refl, (refl, tt)))))))
