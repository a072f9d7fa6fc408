-- By what the call promises.
use Rattle.demand_statements.proofs.MapAnswers.{stops}
use Rattle.demands.proofs.any_input.stopped.Goals as goal

pub returns : goal.returns
returns c = stops c.args.map.now 128 c.corbastrigo_sanity_check_stop.ensures
