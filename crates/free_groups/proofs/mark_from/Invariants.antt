-- The groups before `i` are linked.
use Rattle.std.proofs.Common.{◌≡◌, length, take}
use Rattle.free_groups.specs.models.Marks.{Linked}
use Rattle.free_groups.proofs.mark_from.Given as goal

abbrev pub invariant-loop-i : goal.invariant-loop-i
invariant-loop-i l = (length l.links ≡ length l.initial.links) × Linked (take l.i l.occupied) l.marks l.links
