-- The group by prefixes, by which of their numberings.
-- Assumes nothing.
use Rattle.std.specs.Prelude.{ℕ, Bool, cond, List}
use Rattle.netgroup.specs.Group.{prefix_group, old_prefix_group}

abbrev pub by_numbers : Bool → List ℕ → ℕ
by_numbers old c = cond old (old_prefix_group c) (prefix_group c)
