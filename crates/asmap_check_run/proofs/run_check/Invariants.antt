-- The check from where the loop stands is the check, and what it counted is what it passed.
use Rattle.std.proofs.Common.{◌-◌, ◌*◌, length}
use Rattle.asmap_check_run.specs.models.State.{state_of}
use Rattle.asmap_check_run.proofs.Standing.{Standing, Counting}
use Rattle.asmap_check_run.proofs.run_check.Given as goal

abbrev pub invariant-loop-pos : goal.invariant-loop-pos
invariant-loop-pos l =
    Standing l.map l.bits (state_of l.state l.pos l.previous l.count l.deepest)
    × Counting l.map l.bits (state_of l.state l.pos l.previous l.count l.deepest) l.pieces

abbrev pub decreases-loop-pos : goal.decreases-loop-pos
decreases-loop-pos l = 8 * length l.map - l.pos
