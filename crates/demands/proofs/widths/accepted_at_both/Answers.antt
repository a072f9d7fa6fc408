-- By what the two calls promise (`not_at_32`, `also_at_128`).
use Rattle.demand_statements.proofs.WidthAnswers.{not_at_32, also_at_128}
use Rattle.demands.proofs.widths.accepted_at_both.Goals as goal

pub returns-then-refused-ne0 : goal.returns-then-refused-ne0
returns-then-refused-ne0 c =
    not_at_32 c.args.map.now c.corbastrigo_sanity_check_bits-refused.ensures.hands c.if-refused-ne0.true

pub returns : goal.returns
returns c =
    also_at_128 c.args.map.now c.corbastrigo_sanity_check.ensures.hands
