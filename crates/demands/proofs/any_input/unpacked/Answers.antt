-- By what the call promises.
use Rattle.demand_statements.proofs.MapAnswers.{unpacks}
use Rattle.demands.proofs.any_input.unpacked.Goals as goal

pub returns : goal.returns
returns c = let a = c.args in unpacks a.map.now 128 a.out.now _ c.corbastrigo_unpack.ensures
