-- By what the two calls promise (`walk_in_list_at`).
use native.Mathlib.Omega.{arith}
use Rattle.demand_statements.proofs.WidthAnswers.{walk_in_list_at}
use Rattle.demands.proofs.widths.walk_in_list.Goals as goal

pub returns-then-refused-ne0 : goal.returns-then-refused-ne0
returns-then-refused-ne0 c = λ z. absurd (c.if-refused-ne0.true z)

pub returns : goal.returns
returns c =
    let a = c.args in
    let l = c.corbastrigo_list_bits-refused.ensures in
    let w = c.corbastrigo_interpret_bits.ensures in
    walk_in_list_at a.map.now a.address.now a.width a.out.now _ (λ i. omega (arith, c.type_inv.address i)) l.writes l.covers c.if-refused-ne0.false w.hands w.demand3
