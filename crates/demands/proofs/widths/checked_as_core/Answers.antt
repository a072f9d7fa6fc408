-- By what the call promises (`core_accepts_at`).
use Rattle.demand_statements.proofs.WidthAnswers.{core_accepts_at}
use Rattle.demands.proofs.widths.checked_as_core.Goals as goal

pub returns : goal.returns
returns c =
    let a = c.args in core_accepts_at a.map.now a.width _ c.corbastrigo_sanity_check_bits.ensures.core
