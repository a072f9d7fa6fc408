-- `scan_occupied` is `scan_of`, by the place of the first hit; and the groups up to the hit decide.
use Rattle.std.proofs.Common.{◌≡◌, ◌∙◌, ◌<◌, sym, ap, arith, length}
use Rattle.group_lists.specs.Scan.{in_front, Unread}
use Rattle.group_lists.proofs.Scans.{front_most}
use Rattle.group_lists.proofs.ScanLaws.{scan-taken, scanned_hit, scanned_missed, same_hit, hit-unread}
use Rattle.group_lists.proofs.scan_occupied.Goals as goal
use Rattle.group_lists.specs.Scanned.{Missed}

pub returns-then-place-occupied-clause-value : goal.returns-then-place-occupied-clause-value
returns-then-place-occupied-clause-value c =
    let g = c.args.group in
    let gs = c.args.occupied.now in
    let e = c.place_of-place.ensures in
    let h : in_front g gs < length gs = omega (arith, e, c.if-place-occupied.true) in
    rw e (sym (scan-taken g gs (omega arith) ∙ scanned_hit g gs h))

pub returns-then-place-occupied-clause-unread : goal.returns-then-place-occupied-clause-unread
unfolding Unread
returns-then-place-occupied-clause-unread c =
    let g = c.args.group in
    let gs = c.args.occupied.now in
    let e = c.place_of-place.ensures in
    let h : in_front g gs < length gs = omega (arith, e, c.if-place-occupied.true) in
    λ place read q others.
    let s = same_hit _ place _ read q in
    rw (← s.0, ← s.1, e) (hit-unread g gs others h)

pub returns-clause-value : goal.returns-clause-value
returns-clause-value c =
    let g = c.args.group in
    let gs = c.args.occupied.now in
    let e = c.place_of-place.ensures in
    let z : in_front g gs ≡ length gs = omega (arith, e, c.if-place-occupied.false, front_most g gs) in
    ap Missed (e ∙ z) ∙ sym (scan-taken g gs (omega arith) ∙ scanned_missed g gs (omega (arith, z)))
