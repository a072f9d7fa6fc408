-- By what the two calls promise (`walk_listed`).
use Rattle.demand_statements.proofs.MapAnswers.{over_128}
use Rattle.demand_statements.proofs.WalkLaws.{ends_128}
use Rattle.demand_statements.proofs.RecordAnswers.{walk_listed}
use Rattle.demands.proofs.walks.walk_in_records.Goals as goal

pub returns-then-refused-ne0 : goal.returns-then-refused-ne0
returns-then-refused-ne0 c = λ z. absurd (c.if-refused-ne0.true z)

pub returns : goal.returns
returns c =
    let a = c.args in
    let w = c.corbastrigo_interpret.ensures in
    walk_listed a.map.now a.address.now 128 c.corbastrigo_unpack-refused.ensures c.if-refused-ne0.false (over_128 a.map.now a.address.now w.hands) (ends_128 a.map.now a.address.now w.demand3)
