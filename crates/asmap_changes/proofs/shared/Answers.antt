-- By the rows of `NoteLaws` on the longer prefix.
use Rattle.asmap_changes.proofs.NoteLaws.{place_new, place_old}
use Rattle.asmap_changes.proofs.shared.Goals as goal

pub returns-then-o-n : goal.returns-then-o-n
returns-then-o-n c = place_new c.args.o c.args.n c.if-o-n.true

pub returns : goal.returns
returns c = place_old c.args.o c.args.n c.if-o-n.false
