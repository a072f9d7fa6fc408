-- By what the call promises.
use Rattle.demand_statements.proofs.FilterAnswers.{filters}
use Rattle.demands.proofs.any_input.filtered.Goals as goal

pub returns : goal.returns
returns c = filters c.args.address.now c.corbastrigo_clearnet_unroutable.ensures
