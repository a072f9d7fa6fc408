-- By what the call promises (`draws`).
use Rattle.demand_statements.proofs.LoadAnswers.{draws}
use Rattle.demands.proofs.loads.drawn.Goals as goal

pub returns : goal.returns
returns c = let p = c.corbastrigo_next_draw.ensures in draws c.args.s p.hands p.some
