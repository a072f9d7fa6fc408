-- `mark_from` links one group more (`linked_then`).
use Rattle.std.proofs.Common.{◌<◌, ◌∙◌, sym, add-one, length, take, get_or, arith}
use Rattle.std.proofs.lemmas.List.{length-take-le}
use Rattle.std.proofs.Math.Seq.{take-suc}
use Rattle.free_groups.proofs.Marking.{linked_then}
use Rattle.free_groups.proofs.mark_from.Goals as goal

pub loop-i-preserved : goal.loop-i-preserved
loop-i-preserved c =
    let gs = c.args.occupied.now in
    let l = c.loop-i in
    let room : l.i < length l.links = omega arith in
    let h : l.i < length gs = omega arith in
    let s = linked_then (take l.i gs) l.marks l.links _ _ (get_or gs l.i 0) l.i (sym (length-take-le l.i gs (omega arith))) room l.invariant.1 c.mark.ensures in
    (s.0 ∙ l.invariant.0, rw (add-one l.i, take-suc gs l.i 0 h) s.1)
