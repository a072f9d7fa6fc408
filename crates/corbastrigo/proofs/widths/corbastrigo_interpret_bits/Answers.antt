-- How the walk at a width ended is handed out, and what is promised of it (`walk_finished_at`, `core-number_at`).
use Rattle.answers.proofs.Promised.{walk_finished_at, core-number_at}
use Rattle.answers.proofs.NeverZeroMaps.{walk_handed}
use Rattle.corbastrigo.proofs.widths.corbastrigo_interpret_bits.Goals as goal

pub returns : goal.returns
returns c =
    let a = c.args in
    let w = c.interpret_bits.ensures in
    let h = c.hand_walk.ensures in record { hands = walk_handed w.walked h; demand3 = walk_finished_at a.map.now a.address.now a.width _ _ _ _ _ _ _ h w.demand3; core = core-number_at a.map.now a.address.now a.width _ _ _ _ _ _ _ h w.core }
