-- Runs of equal groups that stand side by side.
-- Assumes nothing.
use Rattle.std.specs.Prelude.{ℕ, suc, cond, List, [], ◌∷◌, eqb}
use Rattle.group_shares.specs.Spread.{Share, share}

-- how many groups at the front are g
abbrev pub front : ℕ → List ℕ → ℕ
front g [] = 0
front g (x ∷ xs) = cond (eqb g x) (suc (front g xs)) 0

-- a group in front of runs makes the first one longer, or one of its own
abbrev pub add_run : ℕ → List Share → List Share
add_run g [] = share g 1 ∷ []
add_run g (s ∷ ss) = cond (eqb g s.group) (share g (suc s.count) ∷ ss) (share g 1 ∷ s ∷ ss)

abbrev pub runs : List ℕ → List Share
runs [] = []
runs (g ∷ gs) = add_run g (runs gs)
