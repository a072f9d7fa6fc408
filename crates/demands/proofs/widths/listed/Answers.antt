-- By what the call promises.
use Rattle.demand_statements.proofs.WidthAnswers.{lists_at}
use Rattle.demands.proofs.widths.listed.Goals as goal

pub returns : goal.returns
returns c =
    let a = c.args in lists_at a.map.now a.width a.out.now _ c.corbastrigo_list_bits.ensures.writes
