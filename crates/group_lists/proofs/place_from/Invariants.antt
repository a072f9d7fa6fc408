-- The groups from `i` on decide.
use Rattle.std.proofs.Common.{◌≡◌, ◌+◌, drop}
use Rattle.group_lists.specs.Scan.{in_front}
use Rattle.group_lists.proofs.place_from.Given as goal

abbrev pub invariant-loop-i : goal.invariant-loop-i
invariant-loop-i l = l.from + in_front l.group (drop l.from l.groups) ≡ l.i + in_front l.group (drop l.i l.groups)
