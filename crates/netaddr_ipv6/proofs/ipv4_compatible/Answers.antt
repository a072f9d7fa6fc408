-- Twelve zeros are the range's twelve bytes.
use Rattle.netaddr_ranges.specs.Unroutable.{zeros}
use Rattle.netaddr_ipv6.proofs.ipv4_compatible.Goals as goal

pub returns : goal.returns
unfolding zeros
returns c = c.zero_bytes.ensures
