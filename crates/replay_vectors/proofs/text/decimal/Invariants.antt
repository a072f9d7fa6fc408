-- `decimal` is safe: a number that is too large is left at once.
use Rattle.std.proofs.Common.{◌≤◌}
use Rattle.replay_vectors.proofs.text.decimal.Given as goal

abbrev pub invariant-loop-byte : goal.invariant-loop-byte
invariant-loop-byte l = l.n ≤ 262144
