-- By what the two calls promise (`unlisted_at`, `with_room_at`).
use Rattle.demand_statements.proofs.WidthAnswers.{unlisted_at, with_room_at}
use Rattle.demands.proofs.widths.listed_with_room.Goals as goal

pub returns-then-refused-ne0 : goal.returns-then-refused-ne0
returns-then-refused-ne0 c =
    let a = c.args in unlisted_at a.map.now a.width a.out.now c.corbastrigo_list_bytes_bits-refused.ensures c.if-refused-ne0.true

pub returns : goal.returns
returns c =
    let a = c.args in
    with_room_at a.map.now a.width a.out.now _ c.corbastrigo_list_bytes_bits-refused.ensures c.corbastrigo_list_bits.ensures.writes
