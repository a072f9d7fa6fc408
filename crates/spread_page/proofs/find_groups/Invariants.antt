-- The groups of the first i candidates stand in front.
use Rattle.std.proofs.Common.{◌≡◌, ◌/◌, ◌≤◌, length, take}
use Rattle.netgroup.specs.Group.{numbering}
use Rattle.peer_lists.specs.Candidates.{candidates_of}
use Rattle.pick_passes.specs.Ranked.{groups_of}
use Rattle.spread_page.proofs.find_groups.Given as goal

abbrev pub invariant-loop-i : goal.invariant-loop-i
invariant-loop-i l =
    (l.i ≤ l.n)
    × (l.n ≡ length l.candidates / 20)
    × (length l.groups ≡ length l.fn.groups)
    × (take l.i l.groups ≡ take l.i (groups_of (numbering l.grouping) (candidates_of l.candidates)))
