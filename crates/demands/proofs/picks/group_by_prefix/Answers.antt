-- By what the calls promise.
use Rattle.demand_statements.proofs.PickAnswers.{prefix_concluded}
use Rattle.demands.proofs.picks.group_by_prefix.Goals as goal

pub returns : goal.returns
returns c =
    let told = prefix_concluded c.args.candidate.now c.corbastrigo_prefix_group.ensures in
    record { group_after = told.0; refused = told.1 }
