-- The groups behind the turns decide.
use Rattle.std.proofs.Common.{◌≡◌, ◌*◌, ◌+◌, drop}
use Rattle.group_lists.specs.Scan.{in_front}
use Rattle.group_lists.proofs.place_of.Given as goal

abbrev pub invariant-loop-turn : goal.invariant-loop-turn
invariant-loop-turn l = in_front l.group l.groups ≡ 8 * l.turn + in_front l.group (drop (8 * l.turn) l.groups)
