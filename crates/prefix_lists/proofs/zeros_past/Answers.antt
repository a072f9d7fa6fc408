-- Past a prefix longer than 64 are bits of the lower half only.
use Rattle.std.proofs.Common.{arith, ◌∙◌}
use Rattle.prefix_lists.proofs.HalfLaws.{past-low, past_high, past_ones}
use Rattle.prefix_lists.proofs.zeros_past.Goals as goal

pub returns-then-length-gt64 : goal.returns-then-length-gt64
returns-then-length-gt64 c = c.zeros_below.ensures ∙ past-low c.args.a c.args.length c.if-length-gt64.true c.requires

pub returns-then-a-eq0 : goal.returns-then-a-eq0
returns-then-a-eq0 c = c.zeros_below-then-a-eq0.ensures ∙ past_high c.args.a c.args.length (omega arith) c.if-length-gt64.false c.if-a-eq0.true

pub returns-else-a-eq0 : goal.returns-else-a-eq0
returns-else-a-eq0 c = past_ones c.args.a c.args.length (omega arith) c.if-length-gt64.false c.if-a-eq0.false
