-- How the walk ended is handed out, and what is promised of it (`walk_finished`, `core-number`).
use Rattle.answers.proofs.Promised.{walk_finished, core-number}
use Rattle.answers.proofs.NeverZeroMaps.{walk_handed}
use Rattle.corbastrigo.proofs.maps.corbastrigo_interpret.Goals as goal

pub returns : goal.returns
returns c =
    let a = c.args in
    let w = c.interpret.ensures in
    let h = c.hand_walk.ensures in record { hands = walk_handed w.walked h; demand3 = walk_finished a.map.now a.address.now _ _ _ _ _ _ _ w.demand3 h; core = core-number a.map.now a.address.now _ _ _ _ _ _ _ w.core h }
