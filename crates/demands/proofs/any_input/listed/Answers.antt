-- By what the call promises.
use Rattle.demand_statements.proofs.ListAnswers.{lists}
use Rattle.demands.proofs.any_input.listed.Goals as goal

pub returns : goal.returns
returns c = let a = c.args in lists a.map.now 128 a.out.now _ c.corbastrigo_list.ensures.writes
