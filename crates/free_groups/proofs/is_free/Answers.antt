-- `is_free` is `free`: the used groups left to look at decide (`Following`), by the mark first, then by a link at a time.
use Rattle.std.proofs.Common.{◌≡◌, ◌∙◌, sym, ap, ◌-◌, ◌++◌, ℕ, not, arith, take}
use Rattle.group_lists.specs.Groups.{has}
use Rattle.group_lists.proofs.Scans.{has-append}
use Rattle.free_groups.proofs.Marking.{has_at, follow_mark, follow_link}
use Rattle.free_groups.proofs.is_free.Goals as goal

pub links-init : goal.links-init
links-init c = follow_mark c.args.group (c.args.occupied.now ++ c.args.taken.now) c.args.marks.now c.args.links.now c.requires.0

pub returns-then-used_at-group : goal.returns-then-used_at-group
returns-then-used_at-group c =
    let g = c.args.group in
    let os = c.args.occupied.now in
    let ts = c.args.taken.now in
    let l = c.links in
    sym (ap not (sym (has-append g os ts) ∙ has_at g (os ++ ts) (l.count - 1) (omega (arith, l.invariant.within)) (sym c.used_at.ensures ∙ c.if-used_at-group.true)))

pub links-preserved : goal.links-preserved
links-preserved c =
    let a = c.args in
    let l = c.links in
    follow_link a.group (a.occupied.now ++ a.taken.now) a.marks.now a.links.now c.requires.0 l.count (l.count - 1) (omega arith) l.invariant
    (λ e. c.if-used_at-group.false (c.used_at.ensures ∙ e))

pub returns-then-count-eq0 : goal.returns-then-count-eq0
returns-then-count-eq0 c =
    let g = c.args.group in
    let os = c.args.occupied.now in
    let ts = c.args.taken.now in
    let l = c.links in
    let z : l.count ≡ 0 = omega arith in
    sym (ap not (sym (has-append g os ts) ∙ l.invariant.decide ∙ ap (λ (n : ℕ). has g (take n (os ++ ts))) z))

pub returns : goal.returns
returns c =
    ap not (c.is_among.ensures ∙ sym c.links.invariant.decide ∙ has-append c.args.group c.args.occupied.now c.args.taken.now)
