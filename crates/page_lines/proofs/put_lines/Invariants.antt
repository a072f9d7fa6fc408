-- What will be put from the next run on is what was to be put at the start, and there is room for it.
use Rattle.std.proofs.Common.{◌≡◌, ◌+◌, ◌*◌, ◌-◌, ◌≤◌, length, drop}
use Rattle.std.proofs.lemmas.List.Edits.{sets}
use Rattle.group_shares.specs.models.Runs.{runs}
use Rattle.page_lines.specs.Line.{lines}
use Rattle.page_lines.proofs.put_lines.Given as goal

abbrev pub invariant-loop-i : goal.invariant-loop-i
invariant-loop-i l =
    (l.i ≤ length l.groups)
    × (length l.out ≡ length l.fn.out)
    × (l.at + 25 * length (runs (drop l.i l.groups)) ≤ length l.fn.out)
    × (sets l.out l.at (lines (length l.groups) (runs (drop l.i l.groups))) ≡ sets l.fn.out 0 (lines (length l.groups) (runs l.groups)))

abbrev pub decreases-loop-i : goal.decreases-loop-i
decreases-loop-i l = length l.groups - l.i
