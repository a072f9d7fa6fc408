-- What the pick came to is handed out, with all that is promised of it.
use Rattle.peer_lists.specs.Candidates.{candidates_of}
use Rattle.netgroup.specs.Group.{numbering}
use Rattle.netgroup_pick.specs.Pick.{select_diverse}
use Rattle.netgroup_pick.specs.Demand.{Demand3, Unaborted}
use Rattle.answers.proofs.Promised.{picks, carried}
use Rattle.corbastrigo.proofs.groups.corbastrigo_select_diverse.Goals as goal

pub returns : goal.returns
returns c =
    let a = c.args in
    let s = c.select_diverse-got in
    let n = numbering c.grouping_of-grouping.result in
    let all = candidates_of a.candidates.now in
    let p = picks (select_diverse n a.candidates.now a.occupied.now a.max a.picks.now a.groups.now) s.result s.ensures.groups_after c.hand_pick.ensures in
    rw (← c.grouping_of-grouping.ensures)
    record { picks = p; demand3 = carried (λ x. Demand3 n all a.occupied.now a.max x s.new.picks s.new.groups) s.ensures.groups_after p s.ensures.demand3; unaborted = carried (Unaborted n all) s.ensures.groups_after p s.ensures.unaborted }
