-- By what the two calls promise (`unwalked`, `walked_on`).
use mathlib.Core.Path.{refl}
use Rattle.demand_statements.proofs.WalkLaws.{ends_128, numbers_128, unwalked, walked_on}
use Rattle.demand_statements.proofs.MapAnswers.{over_128}
use Rattle.demands.proofs.walks.accepted_walk.Goals as goal

pub returns-then-refused-ne0 : goal.returns-then-refused-ne0
returns-then-refused-ne0 c =
    let a = c.args in let told = unwalked a.map.now a.address.now 128 refl c.corbastrigo_sanity_check-refused.ensures.hands c.if-refused-ne0.true in
    record { accepted_walk = told.0; core = told.1 }

pub returns : goal.returns
returns c =
    let a = c.args in
    let w = c.corbastrigo_interpret.ensures in
    let told = walked_on a.map.now a.address.now 128 refl c.corbastrigo_sanity_check-refused.ensures.hands c.if-refused-ne0.false (over_128 a.map.now a.address.now w.hands) (ends_128 a.map.now a.address.now w.demand3) (numbers_128 a.map.now a.address.now w.core) in
    record { accepted_walk = told.0; core = told.1 }
