-- By what the two calls promise (`walk_listed_at`).
use Rattle.demand_statements.proofs.WidthAnswers.{walk_listed_at}
use Rattle.demands.proofs.widths.walk_in_records.Goals as goal

pub returns-then-refused-ne0 : goal.returns-then-refused-ne0
returns-then-refused-ne0 c = λ z. absurd (c.if-refused-ne0.true z)

pub returns : goal.returns
returns c =
    let a = c.args in
    let w = c.corbastrigo_interpret_bits.ensures in
    walk_listed_at a.map.now a.address.now a.width c.corbastrigo_unpack_bits-refused.ensures c.if-refused-ne0.false w.hands w.demand3
