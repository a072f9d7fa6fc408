-- Where the half with bit 1 starts: a step up in the half of the address in which the bit lies.
use Rattle.std.proofs.Common.{arith}
use Rattle.tree_turns.proofs.HalfLaws.{one_high-fits, one_high, one-low-fits, one-low}
use Rattle.tree_turns.proofs.one_half.Goals as goal

pub overflow_add-high : goal.overflow_add-high
overflow_add-high c = record { fits = one_high-fits c.args.first c.args.depth (omega arith) (omega arith) c.if-depth-lt64.true c.requires.1 }

pub returns-then-depth-lt64 : goal.returns-then-depth-lt64
returns-then-depth-lt64 c = one_high c.args.first c.args.depth (omega arith) c.if-depth-lt64.true

pub overflow_add-low : goal.overflow_add-low
overflow_add-low c = record { fits = one-low-fits c.args.first c.args.depth (omega arith) c.requires.0 c.if-depth-lt64.false c.requires.1 }

pub returns : goal.returns
returns c = one-low c.args.first c.args.depth (omega arith) c.requires.0 c.if-depth-lt64.false
