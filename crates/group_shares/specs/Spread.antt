-- The spread of a list of groups (document 02, CR 4): each group once, "groups rise", with "its candidates", how many of the list it has.
-- Assumes nothing.
use Rattle.std.specs.Prelude.{ℕ, suc, ◌≤◌, ◌<◌, cond, List, [], ◌∷◌, eqb, ltb}

pub record Share : Type 0 where
  pub group : ℕ
  pub count : ℕ

abbrev pub share : ℕ → ℕ → Share
share group count = record { group = group; count = count }

-- one candidate more, of group g: it is counted where its group stands, or its group joins in front of the first greater one
abbrev pub tally : ℕ → List Share → List Share
tally g [] = share g 1 ∷ []
tally g (s ∷ ss) = cond (ltb g s.group) (share g 1 ∷ s ∷ ss) (cond (eqb g s.group) (share g (suc s.count) ∷ ss) (s ∷ tally g ss))

-- gs: the candidates' groups, in any order
abbrev pub spread : List ℕ → List Share
spread [] = []
spread (g ∷ gs) = tally g (spread gs)

-- what is meant: how many of a list are g; how many the shares give it, 0 where it has none; and groups that rise from b on, none of them
-- without a candidate (`group_shares/proofs/SpreadLaws: spread_counts, spread-rises`)
abbrev pub times : ℕ → List ℕ → ℕ
times g [] = 0
times g (x ∷ xs) = cond (eqb g x) (suc (times g xs)) (times g xs)

abbrev pub count_in : ℕ → List Share → ℕ
count_in g [] = 0
count_in g (s ∷ ss) = cond (eqb g s.group) s.count (count_in g ss)

abbrev pub RisesFrom : ℕ → List Share → Type 0
RisesFrom b [] = Unit {0}
RisesFrom b (s ∷ ss) = (b ≤ s.group) × (0 < s.count) × RisesFrom (suc s.group) ss
