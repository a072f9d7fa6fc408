-- By the rows of `MergeLaws`: how the loop stands, and each way on from there.
use Rattle.std.proofs.Common.{arith}
use Rattle.asmap_changes.proofs.PairLaws.{behind_fore}
use Rattle.asmap_changes.proofs.MergeLaws.{start_standing, same_ends, few_changes, room_here, count_here, on_both, on_old, on_new, end_both_old, end_both_new, end_old, end_new}
use Rattle.asmap_changes.proofs.merge.Goals as goal

pub loop-o-init : goal.loop-o-init
loop-o-init g c =
    start_standing c.args.old.now c.args.new.now _ _ _ _ _ _ _ _ _ c.requires.0 c.requires.1 c.requires.3 c.nothing-found.ensures

pub note-found-requires : goal.note-found-requires
note-found-requires g c =
    (count_here c.loop-o.invariant (few_changes _ _ c.requires.0 c.requires.1), λ d. room_here c.loop-o.invariant c.requires.2 d)

-- ---- both end

pub returns-in_default : goal.returns-in_default
returns-in_default g c =
    end_both_old c.loop-o.invariant c.note-found.ensures (same_ends c.loop-o.invariant c.eq.ensures c.if-eq.true) (c.in_default.ensures _ _ (behind_fore c.loop-o.invariant.pair.fore_old))

pub next_front-requires-then-eq : goal.next_front-requires-then-eq
next_front-requires-then-eq g c =
    (c.requires.1.within, record { lo = _; pieces = _; coming = behind_fore c.loop-o.invariant.pair.fore_new })

pub returns-in_default-next_front : goal.returns-in_default-next_front
returns-in_default-next_front g c =
    end_both_new c.loop-o.invariant c.note-found.ensures (same_ends c.loop-o.invariant c.eq.ensures c.if-eq.true) (c.in_default-next_front.ensures _ _ (behind_fore c.loop-o.invariant.pair.fore_new))

pub loop-o-smaller-then-eq : goal.loop-o-smaller-then-eq
loop-o-smaller-then-eq g c =
    omega (arith, (c.in-Some.ensures _ _ (behind_fore c.loop-o.invariant.pair.fore_old)).less, (c.in-Some-next_front.ensures _ _ (behind_fore c.loop-o.invariant.pair.fore_new)).less)

pub loop-o-preserved-then-eq : goal.loop-o-preserved-then-eq
loop-o-preserved-then-eq g c =
    on_both c.loop-o.invariant c.note-found.ensures (same_ends c.loop-o.invariant c.eq.ensures c.if-eq.true)
    (c.in-Some.ensures _ _ (behind_fore c.loop-o.invariant.pair.fore_old)) (c.in-Some-next_front.ensures _ _ (behind_fore c.loop-o.invariant.pair.fore_new))

-- ---- the old one ends first

pub returns-in_default-next_front-2 : goal.returns-in_default-next_front-2
returns-in_default-next_front-2 g c =
    end_old c.loop-o.invariant c.note-found.ensures (same_ends c.loop-o.invariant c.eq.ensures c.if-eq.false) c.if-n-o.true (c.in_default-next_front-2.ensures _ _ (behind_fore c.loop-o.invariant.pair.fore_old))

pub loop-o-smaller-then-n-o : goal.loop-o-smaller-then-n-o
loop-o-smaller-then-n-o g c = omega (arith, (c.in-Some-next_front-2.ensures _ _ (behind_fore c.loop-o.invariant.pair.fore_old)).less)

pub loop-o-preserved-then-n-o : goal.loop-o-preserved-then-n-o
loop-o-preserved-then-n-o g c =
    on_old c.loop-o.invariant c.note-found.ensures (same_ends c.loop-o.invariant c.eq.ensures c.if-eq.false) c.if-n-o.true (c.in-Some-next_front-2.ensures _ _ (behind_fore c.loop-o.invariant.pair.fore_old))

-- ---- the new one ends first

pub next_front-requires-else-n-o : goal.next_front-requires-else-n-o
next_front-requires-else-n-o g c =
    (c.requires.1.within, record { lo = _; pieces = _; coming = behind_fore c.loop-o.invariant.pair.fore_new })

pub returns-in_default-next_front-3 : goal.returns-in_default-next_front-3
returns-in_default-next_front-3 g c =
    end_new c.loop-o.invariant c.note-found.ensures (same_ends c.loop-o.invariant c.eq.ensures c.if-eq.false) c.if-n-o.false (c.in_default-next_front-3.ensures _ _ (behind_fore c.loop-o.invariant.pair.fore_new))

pub loop-o-smaller : goal.loop-o-smaller
loop-o-smaller g c = omega (arith, (c.in-Some-next_front-3.ensures _ _ (behind_fore c.loop-o.invariant.pair.fore_new)).less)

pub loop-o-preserved : goal.loop-o-preserved
loop-o-preserved g c =
    on_new c.loop-o.invariant c.note-found.ensures (same_ends c.loop-o.invariant c.eq.ensures c.if-eq.false) c.if-n-o.false (c.in-Some-next_front-3.ensures _ _ (behind_fore c.loop-o.invariant.pair.fore_new))
