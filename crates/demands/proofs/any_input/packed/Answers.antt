-- By what the call promises.
use Rattle.demand_statements.proofs.MapAnswers.{packs}
use Rattle.demands.proofs.any_input.packed.Goals as goal

pub returns : goal.returns
returns c = let a = c.args in packs a.records.now a.out.now _ c.corbastrigo_pack.ensures
