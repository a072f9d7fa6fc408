-- By what the call promises (`built`, `builds`).
use native.Mathlib.Omega.{arith}
use Rattle.demand_statements.proofs.BuildAnswers.{builds, built}
use Rattle.demands.proofs.builds.built.Goals as goal

pub returns : goal.returns
returns c =
    let a = c.args in
    let l = c.type_inv.records in
    let p = c.corbastrigo_build.ensures in
    record { built = built a.records.now a.given a.width a.out.now _ (λ i. omega (arith, l i)) p.writes p.builds; refused = builds a.records.now a.given a.width a.out.now _ p.writes }
