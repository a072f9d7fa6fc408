-- The group that was found is handed out, with how its walk ended where the check accepts the map.
use mathlib.Core.Path.{◌∙◌, subst}
use Rattle.netgroup.specs.Group.{numbering}
use Rattle.netgroup.specs.Netgroup.{netgroup_unchecked, Whole}
use Rattle.answers.proofs.NeverZeroGroups.{group_handed}
use Rattle.answers.proofs.Promised.{found}
use Rattle.corbastrigo.proofs.groups.corbastrigo_netgroup_unchecked.Goals as goal

pub returns : goal.returns
returns c =
    let a = c.args in
    let g = c.netgroup_unchecked.ensures in
    let n = numbering c.grouping_of.result in
    let h = group_handed g.value c.hand_group.ensures in
    rw (← c.grouping_of.ensures) record { hands = h; unaborted = λ e z. subst (Whole n a.candidate.now) (g.value ∙ found (netgroup_unchecked n a.candidate.now) h z) (g.unaborted e) }
