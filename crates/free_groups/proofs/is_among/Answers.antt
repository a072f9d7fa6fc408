-- `is_among`: the occupied groups, then the taken ones.
use Rattle.std.proofs.Common.{◌∙◌, sym, ap, ◌-◌, arith, length, take}
use Rattle.group_lists.specs.Groups.{has}
use Rattle.group_lists.proofs.Scans.{has-append}
use Rattle.free_groups.proofs.Marking.{first_taken}
use Rattle.free_groups.proofs.is_among.Goals as goal

pub returns-then-is_occupied : goal.returns-then-is_occupied
returns-then-is_occupied c =
    let g = c.args.group in
    let os = c.args.occupied.now in
    let ts = c.args.taken.now in
    let n = c.args.count in
    c.if-is_occupied.true
    ∙ sym (
    ap (has g) (first_taken os ts n (omega (arith, c.if-count-occupied.false)))
    ∙ has-append g os (take (n - length os) ts)
    ∙ rw (sym c.is_occupied-2.ensures ∙ c.if-is_occupied.true)
    )

pub returns-else-is_occupied : goal.returns-else-is_occupied
returns-else-is_occupied c =
    let g = c.args.group in
    let os = c.args.occupied.now in
    let ts = c.args.taken.now in
    let n = c.args.count in
    c.contains.ensures
    ∙ sym (
    ap (has g) (first_taken os ts n (omega (arith, c.if-count-occupied.false)))
    ∙ has-append g os (take (n - length os) ts)
    ∙ rw (sym c.is_occupied-2.ensures ∙ c.if-is_occupied.false)
    )
