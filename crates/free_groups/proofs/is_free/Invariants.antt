-- The used groups that are left to look at decide.
use Rattle.std.proofs.Common.{◌++◌}
use Rattle.free_groups.proofs.Marking.{Following}
use Rattle.free_groups.proofs.is_free.Given as goal

abbrev pub invariant-links : goal.invariant-links
invariant-links l = Following l.group (l.occupied ++ l.taken) l.count
