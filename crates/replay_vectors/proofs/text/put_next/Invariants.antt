-- `put_next` is safe: two bytes and a carry are below 512.
use Rattle.std.proofs.Common.{◌≤◌}
use Rattle.replay_vectors.proofs.text.put_next.Given as goal

abbrev pub invariant-loop-i : goal.invariant-loop-i
invariant-loop-i l = l.carry ≤ 1
