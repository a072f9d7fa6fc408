-- The pass stands where `Filling` says.
use Rattle.std.proofs.Common.{◌≡◌, ◌≤◌, ◌/◌, length}
use Rattle.peer_lists.specs.Candidates.{candidates_of}
use Rattle.pick_passes.proofs.Fills.{Filling}
use Rattle.pick_passes.proofs.fill_rest.Given as goal

abbrev pub invariant-loop-i : goal.invariant-loop-i
invariant-loop-i l = (l.i ≤ l.n) × (l.n ≡ length l.candidates / 20) × (Filling (candidates_of l.candidates) l.max l.taken l.fn.picks l.picks l.total l.i)
