-- What the pick came to is handed out, with what is promised of it.
use Rattle.peer_lists.specs.Candidates.{candidates_of}
use Rattle.netgroup.specs.Group.{by_old_prefixes}
use Rattle.netgroup_pick.specs.Pick.{old_prefix_pick}
use Rattle.netgroup_pick.specs.Demand.{Demand3}
use Rattle.answers.proofs.Promised.{picks, carried}
use Rattle.corbastrigo.proofs.groups.corbastrigo_old_prefix_pick.Goals as goal

pub returns : goal.returns
returns c =
    let a = c.args in
    let s = c.old_prefix_pick-got in
    let p = picks (old_prefix_pick a.candidates.now a.occupied.now a.max a.picks.now a.groups.now) s.result s.ensures.groups_after c.hand_pick.ensures in
    record { picks = p; demand3 = carried (λ x. Demand3 by_old_prefixes (candidates_of a.candidates.now) a.occupied.now a.max x s.new.picks s.new.groups) s.ensures.groups_after p s.ensures.demand3 }
