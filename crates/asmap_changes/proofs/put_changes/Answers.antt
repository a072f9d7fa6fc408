-- The foremost pieces of both listings, and from there the loop.
use Rattle.asmap_changes.proofs.MergeLaws.{start_at, first_of_lem, no_old, no_new}
use Rattle.asmap_changes.proofs.put_changes.Goals as goal

pub next_front-requires : goal.next_front-requires
next_front-requires g c =
    (c.requires.0.within, record { lo = _; pieces = _; coming = start_at c.args.old.now _ _ _ c.requires.0 c.new-old_stack.ensures.0 c.new-old_stack.ensures.1 c.start-s.ensures })

pub returns-in_default : goal.returns-in_default
returns-in_default g c =
    no_old c.args.old.now c.args.new.now _ _ _
    (c.in_default.ensures _ _ (start_at c.args.old.now _ _ _ c.requires.0 c.new-old_stack.ensures.0 c.new-old_stack.ensures.1 c.start-s.ensures))
    c.nothing.ensures

pub next_front-requires-2 : goal.next_front-requires-2
next_front-requires-2 g c =
    (c.requires.1.within, record { lo = _; pieces = _; coming = start_at c.args.new.now _ _ _ c.requires.1 c.new-new_stack.ensures.0 c.new-new_stack.ensures.1 c.start-s.ensures })

pub returns-in_default-next_front : goal.returns-in_default-next_front
returns-in_default-next_front g c =
    no_new c.args.old.now c.args.new.now _ _ _
    (c.in_default-next_front.ensures _ _ (start_at c.args.new.now _ _ _ c.requires.1 c.new-new_stack.ensures.0 c.new-new_stack.ensures.1 c.start-s.ensures))
    c.nothing-in_default-next_front.ensures

pub merge-requires : goal.merge-requires
merge-requires g c = (
  c.requires.0,
  c.requires.1,
  c.requires.2,
  record {
    old_split = first_of_lem (c.in-Some.ensures _ _ (start_at c.args.old.now _ _ _ c.requires.0 c.new-old_stack.ensures.0 c.new-old_stack.ensures.1 c.start-s.ensures));
    new_split = first_of_lem (c.in-Some-next_front.ensures _ _ (start_at c.args.new.now _ _ _ c.requires.1 c.new-new_stack.ensures.0 c.new-new_stack.ensures.1 c.start-s.ensures));
  },
)
