-- Lists of groups: those of connected peers, and those that a pick has taken (document 01, Groups and pick).
-- Assumes nothing.
use Rattle.std.specs.Prelude.{ℕ, Bool, false, ◌||◌, List, [], ◌∷◌, eqb}

-- whether a group is among others
abbrev pub has : ℕ → List ℕ → Bool
has g [] = false
has g (x ∷ xs) = eqb g x || has g xs
