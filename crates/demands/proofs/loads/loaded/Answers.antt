-- By what the call promises (`loaded`, `loads`).
use Rattle.demand_statements.proofs.LoadAnswers.{loads, loaded}
use Rattle.demands.proofs.loads.loaded.Goals as goal

pub returns : goal.returns
returns c =
    let a = c.args in
    let p = c.corbastrigo_load.ensures in
    record { loaded = loaded a.seed a.pairs a.out.now _ p.writes p.passes; refused = loads a.seed a.pairs a.out.now _ p.writes }
