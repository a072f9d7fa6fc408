-- By what the call promises.
use mathlib.Core.Path.{refl}
use Rattle.demand_statements.proofs.MapAnswers.{walks, over_128}
use Rattle.demands.proofs.any_input.walked.Goals as goal

pub returns : goal.returns
returns c = let a = c.args in walks a.map.now a.address.now 128 refl (over_128 a.map.now a.address.now c.corbastrigo_interpret.ensures.hands)
