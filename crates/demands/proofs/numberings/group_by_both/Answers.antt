-- By what the two calls promise, and the law on what becomes of a number.
use mathlib.Core.Path.{refl}
use native.Mathlib.Omega.{arith}
use Rattle.demand_statements.proofs.PickAnswers.{group_concluded, prefix_concluded}
use Rattle.demand_statements.proofs.ApartLaws.{renumbered}
use Rattle.demands.proofs.numberings.group_by_both.Goals as goal

pub returns : goal.returns
returns c =
    let x = c.args.candidate.now in
    let q = c.corbastrigo_netgroup.ensures in
    let old = (prefix_concluded x c.corbastrigo_prefix_group-refused.ensures).0 in
    let new = (group_concluded 0 _ x q.hands q.unaborted).0 in
    λ z. renumbered x _ _ (old (omega arith)) ((new z).by_prefix refl)
