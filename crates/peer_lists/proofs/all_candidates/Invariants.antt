-- The candidates from `i` on decide.
use Rattle.std.proofs.Common.{◌≡◌, ◌*◌, ◌/◌, length, drop}
use Rattle.peer_lists.specs.Candidates.{all_valid, candidates_of}
use Rattle.peer_lists.proofs.all_candidates.Given as goal

abbrev pub invariant-loop-turn : goal.invariant-loop-turn
invariant-loop-turn l =
    (l.n ≡ length l.candidates / 20) × (all_valid (candidates_of l.candidates) ≡ all_valid (drop (4 * l.turn) (candidates_of l.candidates)))
