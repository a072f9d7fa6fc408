-- By what the calls promise.
use Rattle.demand_statements.proofs.PickAnswers.{group_concluded}
use Rattle.demands.proofs.picks.group_of.Goals as goal

pub returns : goal.returns
returns c =
    let a = c.args in let g = c.corbastrigo_netgroup.ensures in let told = group_concluded a.has_map a.map.now a.candidate.now g.hands g.unaborted in
    record { grouped = told.0; refused = told.1 }
