-- By what the call promises.
use Rattle.demand_statements.proofs.WidthAnswers.{unpacks_at}
use Rattle.demands.proofs.widths.unpacked.Goals as goal

pub returns : goal.returns
returns c =
    let a = c.args in unpacks_at a.map.now a.width a.out.now _ c.corbastrigo_unpack_bits.ensures
