-- None of the first `k` is the group, and those behind them decide.
use Rattle.std.proofs.Common.{◌≡◌, ◌+◌, ◌-◌, take, drop}
use Rattle.group_lists.specs.Scan.{in_front}
use Rattle.group_lists.proofs.front_of.Given as goal

abbrev pub invariant-loop-k : goal.invariant-loop-k
invariant-loop-k g l = in_front l.group (take g.row.N (drop l.i l.groups)) ≡ l.k + in_front l.group (take (g.row.N - l.k) (drop (l.i + l.k) l.groups))
