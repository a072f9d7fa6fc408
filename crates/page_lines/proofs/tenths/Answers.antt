-- `tenths` is the quotient, or one more where twice the rest is not less than all.
use borrow.Author.Tests.{lt-ltb, le-ltb}
use Rattle.std.proofs.Common.{◌*◌, ◌%◌, arith}
use Rattle.page_lines.specs.PerCent as percent
use Rattle.page_lines.proofs.tenths.Goals as goal

pub returns-then-rest-all : goal.returns-then-rest-all
unfolding percent.tenths percent.rounded
returns-then-rest-all c = rw (lt-ltb (2 * (1000 * c.args.part % c.args.all)) c.args.all (omega arith))

pub returns : goal.returns
unfolding percent.tenths percent.rounded
returns c = rw (le-ltb (2 * (1000 * c.args.part % c.args.all)) c.args.all (omega arith)) (omega arith)
