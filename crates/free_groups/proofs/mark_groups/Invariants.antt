-- The groups of the turns before are linked.
use Rattle.std.proofs.Common.{◌≡◌, ◌*◌, length, take}
use Rattle.free_groups.specs.models.Marks.{Linked}
use Rattle.free_groups.proofs.mark_groups.Given as goal

abbrev pub invariant-loop-turn : goal.invariant-loop-turn
invariant-loop-turn l = (length l.links ≡ length l.initial.links) × Linked (take (4 * l.turn) l.occupied) l.marks l.links
