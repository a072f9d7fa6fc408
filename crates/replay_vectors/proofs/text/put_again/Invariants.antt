-- `put_again` is safe: the bytes before a place are as many as those that are put there.
use Rattle.std.proofs.Common.{◌≤◌, length}
use Rattle.replay_vectors.proofs.text.put_again.Given as goal

abbrev pub invariant-loop : goal.invariant-loop
invariant-loop l = (l.size ≤ l.end) × (l.end ≤ length l.bytes)
