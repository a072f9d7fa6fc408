-- By what the two calls promise (`unlisted`, `with_room`).
use Rattle.demand_statements.proofs.ListAnswers.{unlisted, with_room}
use Rattle.demands.proofs.lists.listed_with_room.Goals as goal

pub returns-then-refused-ne0 : goal.returns-then-refused-ne0
returns-then-refused-ne0 c =
    let a = c.args in
    unlisted a.map.now 128 a.out.now c.corbastrigo_list_bytes-refused.ensures c.if-refused-ne0.true

pub returns : goal.returns
returns c =
    let a = c.args in
    with_room a.map.now 128 a.out.now _ c.corbastrigo_list_bytes-refused.ensures c.corbastrigo_list.ensures.writes
