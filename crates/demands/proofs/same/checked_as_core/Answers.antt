-- By what the call promises (`core_accepts`).
use Rattle.demand_statements.proofs.CoreAnswers.{core_accepts}
use Rattle.demands.proofs.same.checked_as_core.Goals as goal

pub returns : goal.returns
returns c = core_accepts c.args.map.now 128 _ c.corbastrigo_sanity_check.ensures.core
