-- Demand 3 for the pick: of a pick that is not refused, whatever its list, occupied groups and max.
-- Assumes nothing.
use Rattle.std.specs.Prelude.{ℕ, ◌<◌, ◌≡◌, List, [], map, length, take, get_or, Result, Ok, Err}
use Rattle.netgroup.specs.Group.{Numbering, by_map, by_prefixes, by_old_prefixes, walk_for}
use Rattle.netgroup.specs.Ended.{Ended}
use Rattle.pick_passes.specs.Ranked.{sum, first}
use Rattle.netgroup_pick.specs.declared.Totals.{Totals}
use Rattle.refusals.specs.declared.Refusal.{Refusal}

-- the counts of the defined walks of the candidates, place by place, so equal candidates count each; without a map there are none
abbrev pub walk_counts : Numbering → List (List ℕ) → List ℕ
walk_counts (by_map m) all = map (λ (c : List ℕ). length (walk_for m c).read) all
walk_counts by_prefixes all = []
walk_counts by_old_prefixes all = []

module _ (n : Numbering) (all : List (List ℕ)) (occupied : List ℕ) (max : ℕ) where
  -- t: the answer; ps, gs: the outputs at exit. The first-pass picks are those of the defined first pass, in order, with their
  -- groups; as many candidates are examined; the instructions are those of the defined walks of the candidates examined.
  pub record FirstPassed (t : Totals) (ps gs : List ℕ) : Type 0 where
    pub picks : take t.first ps ≡ (first n all occupied max).places
    pub groups : take t.first gs ≡ (first n all occupied max).groups
    pub examined : t.examined ≡ (first n all occupied max).examined
    pub instructions : t.instructions ≡ sum (take t.examined (walk_counts n all))

  abbrev pub Demand3 : Result Totals Refusal → List ℕ → List ℕ → Type 0
  Demand3 (Ok t) ps gs = FirstPassed t ps gs
  Demand3 (Err k) ps gs = Unit {0}

-- each walk of a candidate examined ends at a RETURN or at a difference, and a group 0 is a difference with no DEFAULT read
abbrev pub Unaborted : Numbering → List (List ℕ) → Result Totals Refusal → Type 0
Unaborted n all (Ok t) = (i : ℕ) → i < t.examined → Ended n (get_or all i [])
Unaborted n all (Err k) = Unit {0}
