-- Which groups are free (document 01, Groups and pick).
-- Assumes nothing.
use Rattle.std.specs.Prelude.{ℕ, Bool, not, ◌||◌, List}
use Rattle.group_lists.specs.Groups.{has}

-- a group that no connected peer has and that was not taken
abbrev pub free : List ℕ → List ℕ → ℕ → Bool
free occupied taken g = not (has g occupied || has g taken)
