-- It lies in one half of the address (last_high, last-low).
use Rattle.std.proofs.Common.{arith, sym}
use Rattle.tree_turns.proofs.HalfLaws.{last_high, last-low}
use Rattle.tree_turns.proofs.last_bit.Goals as goal

pub returns-then-depth-lt65 : goal.returns-then-depth-lt65
returns-then-depth-lt65 c = sym (last_high c.args.first c.args.depth (omega arith) c.if-depth-lt65.true)

pub returns : goal.returns
returns c = sym (last-low c.args.first c.args.depth (omega arith) c.if-depth-lt65.false)
