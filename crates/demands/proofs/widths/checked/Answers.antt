-- By what the call promises.
use Rattle.demand_statements.proofs.WidthAnswers.{checks_at}
use Rattle.demands.proofs.widths.checked.Goals as goal

pub returns : goal.returns
returns c = let a = c.args in checks_at a.map.now a.width c.corbastrigo_sanity_check_bits.ensures.hands
