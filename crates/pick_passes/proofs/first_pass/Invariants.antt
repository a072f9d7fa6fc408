-- The pass stands where `Passing` says, and the used groups are linked.
use Rattle.std.proofs.Common.{◌≡◌, ◌≤◌, ◌/◌, ◌++◌, length, take}
use Rattle.peer_lists.specs.Candidates.{candidates_of}
use Rattle.free_groups.specs.models.Marks.{Linked}
use Rattle.netgroup.specs.Group.{numbering}
use Rattle.pick_passes.specs.Ranked.{groups_of, counts_of}
use Rattle.pick_passes.proofs.Passes.{Passing}
use Rattle.pick_passes.proofs.first_pass.Given as goal

abbrev pub invariant-loop-i : goal.invariant-loop-i
invariant-loop-i l =
    (l.i ≤ l.n)
    × (l.n ≡ length l.candidates / 20)
    × (Passing l.occupied l.max (groups_of (numbering l.grouping) (candidates_of l.candidates)) (counts_of (numbering l.grouping) (candidates_of l.candidates))
    l.fn.picks l.fn.groups l.picks l.groups l.taken l.instructions l.i)
    × (length l.marks.links ≡ 8192)
    × (Linked (l.occupied ++ take l.taken l.groups) l.marks.marks l.marks.links)
