-- By what the call promises.
use Rattle.demand_statements.proofs.PickAnswers.{old_pick_concluded}
use Rattle.demands.proofs.picks.pick_by_old_prefixes.Goals as goal

pub returns : goal.returns
returns c =
    let a = c.args in
    let p = c.corbastrigo_old_prefix_pick.ensures in
    let told = old_pick_concluded a.candidates.now a.occupied.now a.max a.picks.now a.groups.now p.picks p.demand3 in
    record { by_prefixes = told.0; refused = told.1 }
