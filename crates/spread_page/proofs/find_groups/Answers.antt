-- `find_groups`: the groups of the first i candidates stand in front (`found-next`).
use Rattle.std.proofs.Common.{[], ◌/◌, ◌<◌, ◌≡◌, ◌∙◌, ℕ, length, take, get_or, refl, sym, ap, length-set, arith}
use lib.Seq.{take_all}
use Rattle.netgroup.specs.declared.Grouped.{Grouped}
use Rattle.netgroup.specs.Group.{numbering, grouped_of}
use Rattle.peer_lists.specs.Candidates.{candidates_of}
use Rattle.peer_lists.proofs.Lists.{length_candidates}
use Rattle.pick_passes.specs.Ranked.{groups_of}
use Rattle.pick_passes.proofs.Lists.{length-groups, group_at}
use Rattle.spread_page.proofs.PageLaws.{found-next}
use Rattle.spread_page.proofs.find_groups.Goals as goal

pub loop-i-preserved : goal.loop-i-preserved
loop-i-preserved c =
    let l = c.loop-i in
    let a = c.args in
    let n = numbering a.grouping in
    let all = candidates_of a.candidates.now in
    let q = length_candidates a.candidates.now in
    let i : l.i < length all = omega arith in
    let found : c.group_of.result ≡ grouped_of n (get_or all l.i []) = c.group_of.ensures ∙ ap (grouped_of n) c.candidate_at.ensures.0 in
    let same : c.group_of.result.group ≡ get_or (groups_of n all) l.i 0 = ap (λ (x : Grouped). x.group) found ∙ sym (group_at n all l.i i) in (
      omega arith,
      refl,
      length-set l.groups l.i _ ∙ l.invariant.2,
      found-next (groups_of n all) l.groups l.i _ (omega (arith, length-groups n all)) (omega arith) l.invariant.3 same,
    )

pub returns : goal.returns
returns c =
    let l = c.loop-i in
    let a = c.args in
    let n = numbering a.grouping in
    let all = candidates_of a.candidates.now in
    let e : length a.candidates.now / 20 ≡ l.i = omega arith in
    ap (λ (k : ℕ). take k l.groups) e
    ∙ l.invariant.3
    ∙ take_all l.i (groups_of n all) (omega (arith, length-groups n all, length_candidates a.candidates.now))
