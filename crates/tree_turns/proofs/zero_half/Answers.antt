-- Where the half with bit 0 starts: a step down in the half of the address in which the bit lies.
use Rattle.std.proofs.Common.{arith}
use Rattle.tree_turns.proofs.HalfLaws.{zero_high-fits, zero_high, zero-low-fits, zero-low}
use Rattle.tree_turns.proofs.zero_half.Goals as goal

pub overflow_sub-high-then-depth-lt65 : goal.overflow_sub-high-then-depth-lt65
overflow_sub-high-then-depth-lt65 c = zero_high-fits c.args.first c.args.depth (omega arith) c.requires.0 c.if-depth-lt65.true c.requires.2

pub returns-then-depth-lt65 : goal.returns-then-depth-lt65
returns-then-depth-lt65 c = zero_high c.args.first c.args.depth (omega arith) c.requires.0 c.if-depth-lt65.true c.requires.2

pub overflow_sub-low-2 : goal.overflow_sub-low-2
overflow_sub-low-2 c = zero-low-fits c.args.first c.args.depth (omega arith) c.if-depth-lt65.false c.requires.2

pub returns : goal.returns
returns c = zero-low c.args.first c.args.depth (omega arith) c.if-depth-lt65.false c.requires.2
