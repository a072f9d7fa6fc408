-- By what the two calls promise, and the law on what the numbering keeps apart.
use mathlib.Core.Path.{refl}
use native.Mathlib.Omega.{arith}
use Rattle.demand_statements.proofs.PickAnswers.{group_concluded}
use Rattle.demand_statements.proofs.ApartLaws.{apart}
use Rattle.demands.proofs.numberings.groups_apart.Goals as goal

pub returns : goal.returns
returns c =
    let a = c.args in
    let p = c.corbastrigo_netgroup-refused.ensures in
    let q = c.corbastrigo_netgroup.ensures in
    let g = (group_concluded 0 _ a.candidate.now p.hands p.unaborted).0 in
    let h = (group_concluded 0 _ a.other.now q.hands q.unaborted).0 in
    λ z.
    apart a.candidate.now a.other.now _ _ (λ i. omega (arith, c.type_inv.candidate i)) (λ i. omega (arith, c.type_inv.other i)) ((g (omega arith)).by_prefix refl) ((h z).by_prefix refl)
