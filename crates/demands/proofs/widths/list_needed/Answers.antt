-- By what the call promises.
use Rattle.demand_statements.proofs.WidthAnswers.{needs_at}
use Rattle.demands.proofs.widths.list_needed.Goals as goal

pub returns : goal.returns
returns c = let a = c.args in needs_at a.map.now a.width c.corbastrigo_list_bytes_bits.ensures
