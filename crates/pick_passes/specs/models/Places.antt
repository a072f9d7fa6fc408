-- Places of a list of n, no place twice: what the second pass asks of the picks that it is given.
-- Assumes nothing.
use Rattle.std.specs.Prelude.{ℕ, ◌+◌, ◌≤◌, ◌≡◌, Bool, true, false, List, [], ◌∷◌, eqb}

abbrev pub tally : Bool → ℕ
tally true = 1
tally false = 0

-- how often a place is in a list
abbrev pub times : ℕ → List ℕ → ℕ
times p [] = 0
times p (q ∷ qs) = tally (eqb p q) + times p qs

pub record Places (n : ℕ) (ps : List ℕ) : Type 0 where
  pub once : (p : ℕ) → times p ps ≤ 1
  pub below : (p : ℕ) → n ≤ p → times p ps ≡ 0
