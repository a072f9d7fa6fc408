-- `mark_groups` links the occupied groups: with none marked, none is linked.
use Rattle.std.proofs.Common.{refl}
use Rattle.free_groups.proofs.Marking.{linked_none}
use Rattle.free_groups.proofs.mark_groups.Goals as goal

pub loop-turn-init : goal.loop-turn-init
loop-turn-init c = (refl, rw c.requires.0 (linked_none c.args.links.now))
