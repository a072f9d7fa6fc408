-- By the rows of `NoteLaws` on the first change and on one more.
use Rattle.asmap_changes.proofs.NoteLaws.{added-first, added_more}
use Rattle.asmap_changes.proofs.add.Goals as goal

pub returns-then-k-eq0 : goal.returns-then-k-eq0
returns-then-k-eq0 c = added-first c.args.found _ c.if-k-eq0.true

pub returns : goal.returns
returns c = added_more c.args.found _ c.if-k-eq0.false
