-- `mark_four` links four groups more, one after the other.
use Rattle.free_groups.proofs.Marking.{linked_four}
use Rattle.free_groups.proofs.mark_four.Goals as goal

pub returns : goal.returns
returns c =
    let a = c.args in
    let q = c.requires in
    linked_four a.occupied.now a.marks.now _ _ _ _ a.links.now a.i _ _ _ _ q.0 q.1 q.3
    c.put_mark-first.ensures
    c.put_mark-second.ensures
    c.put_mark-third.ensures
    c.put_mark-fourth.ensures
