-- By what the two calls promise (`walk_in_list_lem`).
use native.Mathlib.Omega.{arith}
use Rattle.demand_statements.proofs.MapAnswers.{over_128}
use Rattle.demand_statements.proofs.WalkLaws.{ends_128}
use Rattle.demand_statements.proofs.ListAnswers as answers
use Rattle.demands.proofs.lists.walk_in_list.Goals as goal

pub returns-then-refused-ne0 : goal.returns-then-refused-ne0
returns-then-refused-ne0 c = λ z. absurd (c.if-refused-ne0.true z)

pub returns : goal.returns
returns c =
    let a = c.args in
    let l = c.corbastrigo_list-refused.ensures in
    let w = c.corbastrigo_interpret.ensures in
    answers.walk_in_list_lem a.map.now a.address.now 128 (omega arith) a.out.now _ (λ i. omega (arith, c.type_inv.address i)) l.writes l.covers c.if-refused-ne0.false (over_128 a.map.now a.address.now w.hands) (ends_128 a.map.now a.address.now w.demand3)
