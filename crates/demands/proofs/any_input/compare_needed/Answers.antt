-- By what the call promises.
use Rattle.demand_statements.proofs.CompareAnswers.{found}
use Rattle.demands.proofs.any_input.compare_needed.Goals as goal

pub returns : goal.returns
returns c = let a = c.args in found a.old_map.now a.new_map.now 128 a.first.now _ c.corbastrigo_compare_bytes.ensures.finds
