-- The candidates from `i` on decide.
use Rattle.std.proofs.Common.{◌≡◌, drop}
use Rattle.peer_lists.specs.Candidates.{all_valid, candidates_of}
use Rattle.peer_lists.proofs.candidates_from.Given as goal

abbrev pub invariant-loop-i : goal.invariant-loop-i
invariant-loop-i l = all_valid (drop l.from (candidates_of l.candidates)) ≡ all_valid (drop l.i (candidates_of l.candidates))
