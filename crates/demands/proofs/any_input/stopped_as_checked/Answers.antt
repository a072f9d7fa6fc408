-- By what the two calls promise (`stops_as_checked`).
use Rattle.demand_statements.proofs.MapAnswers.{checks, stops, stops_as_checked}
use Rattle.demands.proofs.any_input.stopped_as_checked.Goals as goal

pub returns-then-refused-ne0 : goal.returns-then-refused-ne0
returns-then-refused-ne0 c = λ l. absurd (c.if-refused-ne0.true ((stops c.args.map.now 128 c.corbastrigo_sanity_check_stop-refused.ensures).answered l))

pub returns : goal.returns
returns c = λ _.
    let m = c.args.map.now in
    stops_as_checked m 128 (stops m 128 c.corbastrigo_sanity_check_stop-refused.ensures) c.if-refused-ne0.false (checks m 128 c.corbastrigo_sanity_check.ensures.hands)
