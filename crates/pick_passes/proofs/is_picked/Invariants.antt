-- The picks from here on decide.
use Rattle.std.proofs.Common.{◌≡◌, [], drop, get_or}
use Rattle.peer_lists.specs.Candidates.{candidates_of}
use Rattle.pick_passes.specs.Fill.{picked}
use Rattle.pick_passes.proofs.is_picked.Given as goal

abbrev pub invariant-loop-pick : goal.invariant-loop-pick
invariant-loop-pick l =
    picked (candidates_of l.candidates) l.picks (get_or (candidates_of l.candidates) l.i [])
    ≡ picked (candidates_of l.candidates) (drop l.pick-index l.picks) (get_or (candidates_of l.candidates) l.i [])
