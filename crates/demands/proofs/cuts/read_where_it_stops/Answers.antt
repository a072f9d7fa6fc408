-- By what the two calls promise (`handed_on`).
use Rattle.demand_statements.proofs.MapAnswers.{stops}
use Rattle.demand_statements.proofs.CutAnswers.{handed_on, not_handed_on}
use Rattle.demands.proofs.cuts.read_where_it_stops.Goals as goal

pub returns-then-refused-ne0 : goal.returns-then-refused-ne0
returns-then-refused-ne0 c =
    let m = c.args.map.now in
    not_handed_on m 128 (stops m 128 c.corbastrigo_sanity_check_stop-refused.ensures) c.if-refused-ne0.true

pub returns : goal.returns
returns c =
    let m = c.args.map.now in
    let s = stops m 128 c.corbastrigo_sanity_check_stop-refused.ensures in
    handed_on m 128 s c.if-refused-ne0.false c.corbastrigo_decode_instruction.ensures
