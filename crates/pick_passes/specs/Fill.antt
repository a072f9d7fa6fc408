-- The second pass (document 01, Groups and pick): in ranked order, the candidates that equal no pick, until max. Groups have no
-- say in it.
-- Assumes nothing.
use Rattle.std.specs.Prelude.{ℕ, ◌+◌, Bool, false, cond, ◌||◌, List, [], ◌∷◌, ◌++◌, ltb, length, get_or}
use Rattle.candidate_bytes.specs.Candidate.{same}

-- whether a candidate equals one of those at these places
abbrev pub picked : List (List ℕ) → List ℕ → List ℕ → Bool
picked all [] c = false
picked all (p ∷ ps) c = same (get_or all p []) c || picked all ps c

-- the candidate c at a place joins the picks ps where it equals none of them
abbrev pub pick_unequal : List (List ℕ) → ℕ → List ℕ → List ℕ → List ℕ
pick_unequal all place c ps = cond (picked all ps c) ps (ps ++ (place ∷ []))

-- cs are the candidates from a place on
abbrev pub fill_from : List (List ℕ) → ℕ → List ℕ → ℕ → List (List ℕ) → List ℕ
fill_from all max ps place [] = ps
fill_from all max ps place (c ∷ cs) = cond (ltb (length ps) max) (fill_from all max (pick_unequal all place c ps) (place + 1) cs) ps

-- the places of all picks, those of the first pass in front
abbrev pub fill : List (List ℕ) → ℕ → List ℕ → List ℕ
fill all max ps = fill_from all max ps 0 all
