-- By what the call promises.
use Rattle.demand_statements.proofs.WidthAnswers.{stops_at}
use Rattle.demands.proofs.widths.stopped.Goals as goal

pub returns : goal.returns
returns c = let a = c.args in stops_at a.map.now a.width c.corbastrigo_sanity_check_stop_bits.ensures
