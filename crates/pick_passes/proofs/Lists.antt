-- The groups and counts of candidates, place by place.
-- Assumes nothing.
use mathlib.Core.Path.{◌≡◌, refl}
use mathlib.Core.List.{List, [], ◌∷◌, map}
use Prim.Native.Nat.{ℕ, zero, suc, ◌<◌}
use native.Mathlib.Omega.{arith}
use lib.ListN.{length, get_or, length-map}
use Rattle.netgroup.specs.Group.{Numbering, group_of, count_of}
use Rattle.pick_passes.specs.Ranked.{groups_of, counts_of}

-- what a candidate has in the lists of groups and counts
module _ (n : Numbering) (all : List (List ℕ)) where
  pub length-groups : length (groups_of n all) ≡ length all
  length-groups = length-map all (group_of n)

  pub length_counts : length (counts_of n all) ≡ length all
  length_counts = length-map all (count_of n)

mapped_at : (f : List ℕ → ℕ) (all : List (List ℕ)) (i : ℕ) → i < length all → get_or (map f all) i 0 ≡ f (get_or all i [])
mapped_at f [] i h = absurd (omega arith)
mapped_at f (c ∷ cs) zero h = refl
mapped_at f (c ∷ cs) (suc i) h = mapped_at f cs i (omega arith)

pub group_at : (n : Numbering) (all : List (List ℕ)) (i : ℕ) → i < length all → get_or (groups_of n all) i 0 ≡ group_of n (get_or all i [])
group_at n all i h = mapped_at (group_of n) all i h

pub count_at : (n : Numbering) (all : List (List ℕ)) (i : ℕ) → i < length all → get_or (counts_of n all) i 0 ≡ count_of n (get_or all i [])
count_at n all i h = mapped_at (count_of n) all i h
