-- The group that was found is handed out, with how its walk ended.
use mathlib.Core.Path.{◌∙◌, subst}
use Rattle.netgroup.specs.Group.{numbering}
use Rattle.netgroup.specs.Netgroup.{netgroup_of, Whole}
use Rattle.answers.proofs.NeverZeroGroups.{group_handed}
use Rattle.answers.proofs.Promised.{found}
use Rattle.corbastrigo.proofs.groups.corbastrigo_netgroup.Goals as goal

pub returns : goal.returns
returns c =
    let a = c.args in
    let g = c.netgroup.ensures in
    let n = numbering c.grouping_of.result in
    let h = group_handed g.value c.hand_group.ensures in
    rw (← c.grouping_of.ensures) record { hands = h; unaborted = λ z. subst (Whole n a.candidate.now) (g.value ∙ found (netgroup_of n a.candidate.now) h z) g.unaborted }
