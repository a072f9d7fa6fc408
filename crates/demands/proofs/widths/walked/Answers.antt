-- By what the call promises.
use Rattle.demand_statements.proofs.WidthAnswers.{walks_at}
use Rattle.demands.proofs.widths.walked.Goals as goal

pub returns : goal.returns
returns c =
    let a = c.args in walks_at a.map.now a.width a.address.now c.corbastrigo_interpret_bits.ensures.hands
