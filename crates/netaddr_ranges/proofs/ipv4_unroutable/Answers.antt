-- The thirteen tests, in the order of the ranges.
use Rattle.netaddr_ranges.specs.Unroutable.{unroutable4}
use Rattle.netaddr_ranges.specs.Ranges.{ipv4_ranges}
use Rattle.netaddr_ranges.proofs.Order.{joined-some}
use Rattle.netaddr_ranges.proofs.ipv4_unroutable.Goals as goal

pub returns : goal.returns
unfolding unroutable4
returns c =
    rw (c.ipv4_this_network.ensures, c.ipv4_shared.ensures, c.ipv4_benchmarking.ensures, c.ipv4_reserved.ensures)
    (joined-some ipv4_ranges c.args.v)
