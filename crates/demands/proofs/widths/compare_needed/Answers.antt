-- By what the call promises.
use Rattle.demand_statements.proofs.WidthAnswers.{found_at}
use Rattle.demands.proofs.widths.compare_needed.Goals as goal

pub returns : goal.returns
returns c =
    let a = c.args in found_at a.old_map.now a.width a.first.now _ a.new_map.now c.corbastrigo_compare_bytes_bits.ensures.finds
