-- `select_diverse_unchecked` is the pick over a map taken as it is; demand 3 follows from what the first pass leaves.
use Rattle.std.proofs.Common.{◌∙◌, sym, [], arith, get_or}
use Rattle.peer_lists.specs.Candidates.{candidates_of}
use Rattle.netgroup.specs.Group.{numbering}
use Rattle.netgroup.specs.Refusal.{limit_refusal}
use Rattle.netgroup.proofs.Walked.{ended}
use Rattle.netgroup_pick.proofs.PickRefusals.{none_ready}
use Rattle.netgroup_pick.proofs.Picks.{first_are_places, first_fits, picked-whole, picked_demand}
use Rattle.netgroup_pick.proofs.select_diverse_unchecked.Goals as goal

pub fill_rest-total-requires : goal.fill_rest-total-requires
fill_rest-total-requires c =
    let a = c.args in
    let n = numbering a.grouping in
    let ready = none_ready n a.candidates.now a.occupied.now a.max a.picks.now a.groups.now (sym c.pick_refusal.ensures ∙ c.in_default.is) in
    let f = c.marked_pass-first in (
      ready.few,
      omega (arith, ready.room_picks, f.auto.picks),
      first_fits n a.candidates.now a.occupied.now a.max a.picks.now a.groups.now f.result _ _ f.ensures,
      first_are_places n a.candidates.now a.occupied.now a.max a.picks.now a.groups.now f.result _ _ f.ensures,
    )

pub returns-clause-groups_after : goal.returns-clause-groups_after
returns-clause-groups_after c =
    let a = c.args in
    let n = numbering a.grouping in
    let f = c.marked_pass-first in
    let r = c.fill_rest-total in
    picked-whole n a.candidates.now a.occupied.now a.max a.picks.now a.groups.now f.result _ _ f.ensures r.result _ r.ensures (limit_refusal n)
    (sym c.pick_refusal.ensures ∙ c.in_default.is)

pub returns-clause-demand3 : goal.returns-clause-demand3
returns-clause-demand3 c =
    let a = c.args in
    let n = numbering a.grouping in
    let f = c.marked_pass-first in
    let r = c.fill_rest-total in
    picked_demand n a.candidates.now a.occupied.now a.max a.picks.now a.groups.now f.result _ _ f.ensures r.result _ r.ensures

pub returns-clause-unaborted : goal.returns-clause-unaborted
returns-clause-unaborted c = λ h i k. ended (numbering c.args.grouping) (get_or (candidates_of c.args.candidates.now) i []) h
