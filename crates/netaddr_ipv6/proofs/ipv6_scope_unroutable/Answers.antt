-- The tests, in the order of the rows.
use Rattle.std.proofs.Common.{refl}
use Rattle.netaddr_ranges.specs.Unroutable.{zeros}
use Rattle.netaddr_ranges.specs.Ranges.{scope_rows}
use Rattle.netaddr_ranges.proofs.Order.{joined-decided}
use Rattle.netaddr_ipv6.proofs.ipv6_scope_unroutable.Goals as goal

pub returns : goal.returns
unfolding zeros
returns c = rw c.zero_bytes.ensures (joined-decided scope_rows c.args.o (refl, (refl, (refl, (refl, tt)))))
