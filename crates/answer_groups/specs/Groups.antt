-- The numbers that the group calls, the occupied scan and the pick hand out (document 01, Groups and pick; document 02, CR 2).
-- Assumes nothing.
use Rattle.std.specs.Prelude.{ℕ, zero, suc, ◌≡◌, List, ◌∷◌, [], Result, Ok, Err, Option, Some, None}
use Rattle.netgroup.specs.Group.{Numbering, by_map, by_prefixes}
use Rattle.netgroup_pick.specs.declared.Totals.{Totals}
use Rattle.netgroup_pick.specs.Pick.{Handed}
use Rattle.answer_outcome.specs.Outcome.{Outcome, Done, No, Hands}
use Rattle.group_lists.specs.declared.Scan.{Scan}
use Rattle.refusals.specs.declared.Refusal.{Refusal}
use Rattle.refusals.specs.Numbers.{refusal_number}

-- What `has_map` says: 0 is without a map, any other number is with the map beside it. Without one what stands in the map's place is not looked at.
unfoldable pub numbering_of : ℕ → List ℕ → Numbering
numbering_of zero m = by_prefixes
numbering_of (suc n) m = by_map m

-- A group that was found.
unfoldable pub group_found : Result ℕ Refusal → Outcome
group_found (Ok g) = Done (g ∷ [])
group_found (Err e) = No (refusal_number e)

-- A hit: that there is one, and its place. None is found 0 with place 0.
abbrev pub found_of : Option ℕ → List ℕ → List ℕ
found_of (Some place) rest = 1 ∷ place ∷ rest
found_of None rest = 0 ∷ 0 ∷ rest

-- A scan: whether there is a hit, its place and how many groups were read.
unfoldable pub scan_made : Result Scan Refusal → Outcome
scan_made (Ok s) = Done (found_of s.hit (s.read ∷ []))
scan_made (Err e) = No (refusal_number e)

-- The totals of a pick: how many picks, how many of them by the first pass, the candidates examined, and the instructions.
abbrev pub totals_of : ℕ → ℕ → ℕ → ℕ → Totals
totals_of total first examined instructions = record { total = total; first = first; examined = examined; instructions = instructions }

-- A pick that was made.
unfoldable pub pick_made : Result Totals Refusal → Outcome
pick_made (Ok t) = Done (t.total ∷ t.first ∷ t.examined ∷ t.instructions ∷ [])
pick_made (Err e) = No (refusal_number e)

-- A pick h, as the call hands it out: the answer and the lent numbers, and both outputs at exit.
pub record Picks (h : Handed) (r : ℕ) (lent left : List ℕ) (picks groups : List ℕ) : Type 0 where
  pub hands : Hands (pick_made h.answer) r lent left
  pub picks_left : picks ≡ h.picks
  pub groups_left : groups ≡ h.groups
