-- By what the two calls promise (`unwalked_at`, `walked_on_at`).
use Rattle.demand_statements.proofs.WidthAnswers.{unwalked_at, walked_on_at}
use Rattle.demands.proofs.widths.accepted_walk.Goals as goal

pub returns-then-refused-ne0 : goal.returns-then-refused-ne0
returns-then-refused-ne0 c =
    let a = c.args in
    let u = unwalked_at a.map.now a.address.now a.width c.corbastrigo_sanity_check_bits-refused.ensures.hands c.if-refused-ne0.true in
    record { accepted_walk = λ h. (u h).0; core = λ h. (u h).1 }

pub returns : goal.returns
returns c =
    let a = c.args in
    let w = c.corbastrigo_interpret_bits.ensures in
    let u = walked_on_at a.map.now a.address.now a.width c.corbastrigo_sanity_check_bits-refused.ensures.hands c.if-refused-ne0.false w.hands w.demand3 w.core in
    record { accepted_walk = λ h. (u h).0; core = λ h. (u h).1 }
