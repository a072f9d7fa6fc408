-- By what the two calls promise: what was drawn is not 0, so that the second is not refused (`draws_on`).
use Rattle.demand_statements.proofs.LoadAnswers.{draws, draws_on, not_drawn}
use Rattle.demands.proofs.loads.drawn_on.Goals as goal

pub returns-then-refused-ne0 : goal.returns-then-refused-ne0
returns-then-refused-ne0 c =
    let s = c.args.seed in
    let p = c.corbastrigo_next_draw-refused.ensures in
    not_drawn s (draws s p.hands p.some) c.if-refused-ne0.true

pub returns : goal.returns
returns c =
    let s = c.args.seed in
    let p = c.corbastrigo_next_draw-refused.ensures in
    let q = c.corbastrigo_next_draw.ensures in
    draws_on s _ (draws s p.hands p.some) c.if-refused-ne0.false (draws _ q.hands q.some)
