-- By what the call promises.
use Rattle.demand_statements.proofs.MapAnswers.{checks}
use Rattle.demands.proofs.any_input.checked.Goals as goal

pub returns : goal.returns
returns c = checks c.args.map.now 128 c.corbastrigo_sanity_check.ensures.hands
