-- By what the call promises.
use Rattle.demand_statements.proofs.WidthAnswers.{changed_at}
use Rattle.demands.proofs.widths.compared.Goals as goal

pub returns : goal.returns
returns c =
    let a = c.args in changed_at a.old_map.now a.width a.out.now _ a.new_map.now c.corbastrigo_compare_bits.ensures.writes
