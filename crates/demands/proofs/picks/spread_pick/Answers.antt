-- By what the calls promise.
use Rattle.demand_statements.proofs.PickAnswers.{pick_concluded}
use Rattle.demands.proofs.picks.spread_pick.Goals as goal

pub returns : goal.returns
returns c =
    let a = c.args in
    let p = c.corbastrigo_select_diverse.ensures in
    let told = pick_concluded a.map.now a.candidates.now a.occupied.now a.max a.picks.now a.groups.now a.has_map p.picks p.demand3 p.unaborted in
    record { picked = told.0; refused = told.1 }
