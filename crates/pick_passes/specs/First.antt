-- The first pass (document 01, Groups and pick), made from the groups of the candidates in ranked order, the occupied groups and
-- max alone: how a candidate comes by its group does not matter here.
-- Assumes nothing.
use Rattle.std.specs.Prelude.{ℕ, ◌+◌, cond, List, [], ◌∷◌, ◌++◌, ltb, length}
use Rattle.free_groups.specs.Free.{free}

-- what the pass has so far: the places that it took, their groups, and how many candidates it examined
pub record Pass : Type 0 where
  pub places : List ℕ
  pub groups : List ℕ
  pub examined : ℕ

abbrev pub begin : Pass
begin = record { places = []; groups = []; examined = 0 }

-- the next candidate, of group g, is examined and taken
abbrev pub take_next : ℕ → Pass → Pass
take_next g s = record { places = s.places ++ (s.examined ∷ []); groups = s.groups ++ (g ∷ []); examined = s.examined + 1 }

-- it is examined and passed over
abbrev pub pass_over : Pass → Pass
pass_over s = record { places = s.places; groups = s.groups; examined = s.examined + 1 }

abbrev pub examine : List ℕ → ℕ → Pass → Pass
examine occupied g s = cond (free occupied s.groups g) (take_next g s) (pass_over s)

-- until max are taken: a full pass examines no more; gs are the groups of the candidates that are left
abbrev pub pass_from : List ℕ → ℕ → Pass → List ℕ → Pass
pass_from occupied max s [] = s
pass_from occupied max s (g ∷ gs) = cond (ltb (length s.groups) max) (pass_from occupied max (examine occupied g s) gs) s

abbrev pub first_pass : List ℕ → ℕ → List ℕ → Pass
first_pass occupied max gs = pass_from occupied max begin gs
