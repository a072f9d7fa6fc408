-- By what the calls promise.
use Rattle.demand_statements.proofs.PickAnswers.{not_grouped, loaded_concluded}
use Rattle.demands.proofs.picks.group_by_loaded_map.Goals as goal

pub returns-then-refused-ne0 : goal.returns-then-refused-ne0
returns-then-refused-ne0 c =
    let a = c.args in let told = not_grouped a.map.now a.candidate.now c.corbastrigo_sanity_check-refused.ensures.hands c.if-refused-ne0.true in
    record { grouped = told.0; refused = told.1 }

pub returns : goal.returns
returns c =
    let a = c.args in
    let told = loaded_concluded a.map.now a.candidate.now c.corbastrigo_sanity_check-refused.ensures.hands c.if-refused-ne0.false c.corbastrigo_netgroup_unchecked.ensures.hands c.corbastrigo_netgroup_unchecked.ensures.unaborted in
    record { grouped = told.0; refused = told.1 }
