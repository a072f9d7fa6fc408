-- The two halves are the number of the sixteen bytes (halves).
use Rattle.prefix_lists.proofs.BigLaws.{halves}
use Rattle.prefix_lists.proofs.address_at.Goals as goal

pub returns : goal.returns
returns c = halves c.args.bytes.now c.args.at c.big_at-high.ensures c.big_at-low.ensures
