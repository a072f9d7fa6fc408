-- Where no group is linked none is marked (`none_marked`).
use Rattle.std.proofs.Common.{arith}
use Rattle.free_groups.proofs.Marking.{none_marked}
use Rattle.free_groups.proofs.Marks.mark_groups.Goals as goal

pub mark_groups-requires : goal.mark_groups-requires
mark_groups-requires c = (none_marked c.args.self.now.marks c.args.self.now.links c.requires.0, omega arith, c.requires.1)
