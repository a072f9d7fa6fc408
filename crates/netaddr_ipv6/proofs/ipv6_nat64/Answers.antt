-- Four bytes and the run of zeros after them are the range's twelve bytes.
use Rattle.std.proofs.Common.{[], ◌∷◌, ◌∙◌, refl, sym, ap}
use mathlib.Core.Bool.{◌&&◌}
use Rattle.netaddr_ranges.specs.Unroutable.{zeros}
use Rattle.netaddr_ranges.specs.Prefix.{groups, same_bytes}
use Rattle.netaddr_ipv6.proofs.Zeros.{zero_tail}
use Rattle.netaddr_ipv6.proofs.ipv6_nat64.Goals as goal

pub returns : goal.returns
unfolding zeros
returns c = let o = c.args.o in
    ap (λ t. same_bytes 4 (groups 8 (0x64 ∷ 0xff9b ∷ [])) o && t) c.zero_bytes.ensures
    ∙ sym (zero_tail 4 8 (groups 8 (0x64 ∷ 0xff9b ∷ [])) o refl)
