-- By what the call promises.
use Rattle.demand_statements.proofs.CompareAnswers.{changed}
use Rattle.demands.proofs.any_input.compared.Goals as goal

pub returns : goal.returns
returns c = let a = c.args in changed a.old_map.now a.new_map.now 128 a.out.now _ c.corbastrigo_compare.ensures.writes
