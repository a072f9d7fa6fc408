-- Zeros, two bytes and zeros again are the range's twelve bytes.
use Rattle.std.proofs.Common.{[], ◌∷◌, ◌∙◌, refl, sym, ap}
use mathlib.Core.Bool.{◌&&◌}
use lib.Dec.{eqb}
use Rattle.netaddr_ranges.specs.Unroutable.{zeros}
use Rattle.netaddr_ranges.specs.Prefix.{groups, same_bytes, byte}
use Rattle.netaddr_ipv6.proofs.Zeros.{zero_tail}
use Rattle.netaddr_ipv6.proofs.ipv6_translated.Goals as goal

pub returns : goal.returns
unfolding zeros
returns c = let o = c.args.o in
    ap (λ t. t && eqb (byte 8 o) 0xff && eqb (byte 9 o) 0xff && c.zero_bytes-2.result) c.zero_bytes.ensures
    ∙ (ap (λ t. same_bytes 10 (groups 8 (0 ∷ 0 ∷ 0 ∷ 0 ∷ 0xffff ∷ [])) o && t) c.zero_bytes-2.ensures
    ∙ sym (zero_tail 10 2 (groups 8 (0 ∷ 0 ∷ 0 ∷ 0 ∷ 0xffff ∷ [])) o refl))
