-- `fill_rest` is the defined second pass: it stands where `Filling` says.
use Rattle.std.proofs.Common.{◌≡◌, ◌∙◌, refl, sym, true, false, [], arith, take, get_or}
use Rattle.peer_lists.specs.Candidates.{candidates_of}
use Rattle.peer_lists.proofs.Lists.{length_candidates}
use Rattle.pick_passes.specs.Fill.{picked}
use Rattle.pick_passes.proofs.Fills.{filling_start, filling_room, filling_pick, filling_over, filling_full, filling_done}
use Rattle.pick_passes.proofs.fill_rest.Goals as goal
use Rattle.pick_passes.proofs.fill_rest.Goals.{then-not-is_picked, else-not-is_picked}

pub loop-i-init : goal.loop-i-init
loop-i-init c = (omega arith, refl, filling_start _ _ _ _ c.requires.2 (rw (length_candidates c.args.candidates.now) c.requires.3))

pub is_picked-requires : goal.is_picked-requires
is_picked-requires c = (omega arith, rw (← length_candidates c.args.candidates.now) c.loop-i.invariant.2.places)

pub bounds-picks-total : goal.bounds-picks-total
bounds-picks-total c =
    let l = c.loop-i in
    let a = c.args in
    let all = candidates_of a.candidates.now in
    let n = length_candidates a.candidates.now in
    let e : picked all (take l.total l.picks) (get_or all l.i []) ≡ false = sym c.is_picked.ensures ∙ c.if-not-is_picked.true in
    let r = filling_room all a.max a.taken a.picks.now l.picks l.total l.i l.invariant.2 (omega arith) e in
    omega (arith, l.invariant.2.long)

pub loop-i-preserved : goal.loop-i-preserved
loop-i-preserved c =
    let l = c.loop-i in
    let a = c.args in
    let all = candidates_of a.candidates.now in
    let n = length_candidates a.candidates.now in
    elim c.if-not-is_picked.branch [
      | then-not-is_picked w ↦
          let e : picked all (take l.total l.picks) (get_or all l.i []) ≡ false = sym c.is_picked.ensures ∙ w.if-not-is_picked.true in
          let r = filling_room all a.max a.taken a.picks.now l.picks l.total l.i l.invariant.2 (omega arith) e in (
            omega arith,
            refl,
            rw (w.picks-is, w.total-is)
                (filling_pick all a.max a.taken a.picks.now l.picks l.total l.i l.invariant.2 (omega arith) (omega arith) (omega (arith, l.invariant.2.long)) e),
          )
      | else-not-is_picked w ↦
          let e : picked all (take l.total l.picks) (get_or all l.i []) ≡ true = sym c.is_picked.ensures ∙ w.if-not-is_picked.false in (
            omega arith,
            refl,
            rw (w.picks-is, w.total-is)
                (filling_over all a.max a.taken a.picks.now l.picks l.total l.i l.invariant.2 (omega arith) (omega arith) e),
          )
    ]

pub returns-after-loop-i : goal.returns-after-loop-i
returns-after-loop-i c =
    let l = c.loop-i in
    let a = c.args in
    let all = candidates_of a.candidates.now in
    let n = length_candidates a.candidates.now in
    filling_done all a.max a.taken a.picks.now l.picks l.total l.i l.invariant.2 (omega arith)

pub returns-then-max-total : goal.returns-then-max-total
returns-then-max-total c =
    let l = c.loop-i in
    let a = c.args in
    filling_full (candidates_of a.candidates.now) a.max a.taken a.picks.now l.picks l.total l.i l.invariant.2 (omega arith)
