-- By what the calls promise.
use Rattle.demand_statements.proofs.PickAnswers.{not_picked, loaded_pick_concluded}
use Rattle.demands.proofs.picks.pick_by_loaded_map.Goals as goal

pub returns-then-refused-ne0 : goal.returns-then-refused-ne0
returns-then-refused-ne0 c =
    let a = c.args in
    let told = not_picked a.map.now a.candidates.now a.occupied.now a.max a.picks.now a.groups.now c.corbastrigo_sanity_check-refused.ensures.hands c.if-refused-ne0.true in
    record { by_map = told.0; refused = told.1 }

pub returns : goal.returns
returns c =
    let a = c.args in
    let p = c.corbastrigo_select_diverse_unchecked.ensures in
    let told = loaded_pick_concluded a.map.now a.candidates.now a.occupied.now a.max a.picks.now a.groups.now c.corbastrigo_sanity_check-refused.ensures.hands c.if-refused-ne0.false p.picks p.demand3 p.unaborted in
    record { by_map = told.0; refused = told.1 }
