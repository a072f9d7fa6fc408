-- Candidates in ranked order: their groups, the first pass over them, and the instructions that it takes (document 01, Groups and
-- pick; What a call hands back).
-- Assumes nothing.
use Rattle.std.specs.Prelude.{ℕ, ◌+◌, List, [], ◌∷◌, map, take}
use Rattle.netgroup.specs.Group.{Numbering, group_of, count_of}
use Rattle.pick_passes.specs.First.{Pass, first_pass}

-- the groups of candidates, place by place
abbrev pub groups_of : Numbering → List (List ℕ) → List ℕ
groups_of n cs = map (group_of n) cs

-- the instructions that finding each takes
abbrev pub counts_of : Numbering → List (List ℕ) → List ℕ
counts_of n cs = map (count_of n) cs

abbrev pub sum : List ℕ → ℕ
sum [] = 0
sum (x ∷ xs) = x + sum xs

-- all: the candidates
module _ (n : Numbering) (all : List (List ℕ)) (occupied : List ℕ) (max : ℕ) where
  -- the first pass over their groups
  abbrev pub first : Pass
  first = first_pass occupied max (groups_of n all)

  -- of the candidates examined, each once for its place in the list
  abbrev pub instructions : ℕ
  instructions = sum (take first.examined (counts_of n all))
