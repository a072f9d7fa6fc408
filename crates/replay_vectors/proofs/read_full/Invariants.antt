-- `read_full` is safe and ends: a read that gives no byte ends it.
use Rattle.std.proofs.Common.{◌-◌, ◌≤◌, length}
use Rattle.replay_vectors.proofs.read_full.Given as goal

abbrev pub invariant-loop-n : goal.invariant-loop-n
invariant-loop-n g l = l.n ≤ length l.room

abbrev pub decreases-loop-n : goal.decreases-loop-n
decreases-loop-n g l = length l.room - l.n
