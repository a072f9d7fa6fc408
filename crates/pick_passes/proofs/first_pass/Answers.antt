-- `first_pass` is the defined first pass: it stands where `Passing` says, and the used groups are linked.
use Rattle.std.proofs.Common.{◌≡◌, ◌∙◌, ◌+◌, ◌<◌, ◌/◌, refl, sym, ap, [], arith, length, get_or}
use Rattle.netgroup.specs.declared.Grouped.{Grouped}
use Rattle.netgroup.specs.Group.{numbering, grouped_of}
use Rattle.peer_lists.specs.Candidates.{candidates_of}
use Rattle.peer_lists.proofs.Lists.{length_candidates}
use Rattle.free_groups.proofs.Marking.{linked-taken}
use Rattle.pick_passes.specs.Ranked.{groups_of, counts_of}
use Rattle.pick_passes.proofs.Lists.{length-groups, length_counts, group_at, count_at}
use Rattle.pick_passes.proofs.Passes.{passing_take, passing_over, passing_full, passing_done}
use Rattle.pick_passes.proofs.first_pass.Goals as goal
use Rattle.pick_passes.proofs.first_pass.Goals.{then-is_free, else-is_free}

pub loop-i-preserved : goal.loop-i-preserved
loop-i-preserved c =
    let l = c.loop-i in
    let a = c.args in
    let n = numbering a.grouping in
    let all = candidates_of a.candidates.now in
    let q = length_candidates a.candidates.now in
    let i : l.i < length all = omega arith in
    let r = c.group_of-found.result in
    let found : r ≡ grouped_of n (get_or all l.i []) = c.group_of-found.ensures ∙ ap (grouped_of n) c.candidate_at.ensures.0 in
    let same_group : r.group ≡ get_or (groups_of n all) l.i 0 = ap (λ (x : Grouped). x.group) found ∙ sym (group_at n all l.i i) in
    let same_count : r.count ≡ get_or (counts_of n all) l.i 0 = ap (λ (x : Grouped). x.count) found ∙ sym (count_at n all l.i i) in
    let in_groups : l.i < length (groups_of n all) = omega (arith, length-groups n all) in
    let in_counts : l.i < length (counts_of n all) = omega (arith, length_counts n all) in
    let room_picks : l.taken < length l.picks = omega (arith, l.invariant.2.few, l.invariant.2.long_picks) in
    let room_groups : l.taken < length l.groups = omega (arith, l.invariant.2.few, l.invariant.2.long_groups) in
    let room_links : length a.occupied.now + l.taken < length l.marks.links = omega (arith, l.invariant.2.few, l.invariant.3) in
    elim c.if-is_free.branch [
      | then-is_free w ↦
          let s = linked-taken a.occupied.now l.groups l.marks.marks l.marks.links _ _ l.taken r.group room_groups room_links l.invariant.4 w.mark.ensures in (
            omega arith,
            refl,
            rw (w.picks-is, w.groups-is, w.taken-is)
                (passing_take a.occupied.now a.max (groups_of n all) (counts_of n all) a.picks.now a.groups.now l.picks l.groups l.taken l.instructions l.i r.group r.count
                l.invariant.2 in_groups in_counts (omega arith) same_group same_count (omega arith) room_picks room_groups (sym w.if-is_free.true ∙ c.is_free.ensures)),
            rw w.marks-is (s.0 ∙ l.invariant.3),
            rw (w.marks-is, w.groups-is, w.taken-is) s.1,
          )
      | else-is_free w ↦ (
        omega arith,
        refl,
        rw (w.picks-is, w.groups-is, w.taken-is)
            (passing_over a.occupied.now a.max (groups_of n all) (counts_of n all) a.picks.now a.groups.now l.picks l.groups l.taken l.instructions l.i r.group r.count
            l.invariant.2 in_groups in_counts (omega arith) same_group same_count (omega arith) (sym w.if-is_free.false ∙ c.is_free.ensures)),
        rw w.marks-is l.invariant.3,
        rw (w.marks-is, w.groups-is, w.taken-is) l.invariant.4,
      )
    ]

pub returns : goal.returns
returns c =
    let l = c.loop-i in
    let a = c.args in
    let n = numbering a.grouping in
    let all = candidates_of a.candidates.now in
    let q = length_candidates a.candidates.now in
    passing_done a.occupied.now a.max (groups_of n all) (counts_of n all) a.picks.now a.groups.now l.picks l.groups l.taken l.instructions l.i l.invariant.2
    (length a.candidates.now / 20) (omega arith) (omega (arith, length-groups n all))

pub returns-then-max-taken : goal.returns-then-max-taken
returns-then-max-taken c =
    let l = c.loop-i in
    let a = c.args in
    let n = numbering a.grouping in
    let all = candidates_of a.candidates.now in
    passing_full a.occupied.now a.max (groups_of n all) (counts_of n all) a.picks.now a.groups.now l.picks l.groups l.taken l.instructions l.i l.invariant.2 (omega arith)
