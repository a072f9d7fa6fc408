-- The whole pick from its two passes; demand 3; and that the call which checks its map is made of the one that does not.
-- Assumes nothing.
use mathlib.Core.Path.{◌≡◌, ◌∙◌, refl, sym, ap, subst}
use mathlib.Core.List.{List, [], ◌∷◌}
use Prim.Native.Nat.{ℕ, zero, suc, ◌/◌, ◌≤◌}
use native.Mathlib.Omega.{arith}
use lib.ListN.{length, take, drop, length-append}
use lib.Seq.{take-append-le}
use Rattle.netgroup.specs.Group.{Numbering, by_map, by_prefixes, by_old_prefixes, count_of}
use Rattle.netgroup.specs.Refusal.{limit_refusal, check_refusal}
use Rattle.netgroup.proofs.Refusals.{check_limit}
use Rattle.pick_passes.specs.declared.First.{First}
use Rattle.netgroup_pick.specs.declared.Totals.{Totals}
use Rattle.peer_lists.specs.Candidates.{candidates_of}
use Rattle.pick_passes.specs.Fill.{fill}
use Rattle.pick_passes.specs.models.Places.{Places}
use Rattle.peer_lists.specs.Refusal.{list_refusal}
use Rattle.netgroup_pick.specs.PickRefusal.{pick_refusal}
use Rattle.pick_passes.specs.Ranked.{groups_of, counts_of, sum, first}
use Rattle.pick_passes.specs.Output.{written}
use Rattle.netgroup_pick.specs.Pick.{places, handed, pick_unless, pick_call, select_diverse, select_unchecked}
use Rattle.pick_passes.specs.models.Passed.{PassedFirst, Filled}
use Rattle.netgroup_pick.specs.Demand.{walk_counts, FirstPassed}
use Rattle.peer_lists.proofs.Lists.{length_candidates}
use Rattle.pick_passes.proofs.Lists.{length-groups}
use Rattle.pick_passes.proofs.Outputs.{take_written, written_over}
use Rattle.pick_passes.proofs.Passes.{first_places, first_even}
use Rattle.pick_passes.proofs.Fills.{fill_begins}
use Rattle.pick_passes.proofs.Beginnings.{Begins, begins_length, begins_take}
use Rattle.netgroup_pick.proofs.PickRefusals.{then_room}
use Rattle.refusals.specs.declared.Refusal.{Refusal}
use Rattle.std.specs.Prelude.{Ok, Err, Option, Some, None}

-- a refusal: its number, and both outputs as they were
pub refused : (of_map : Option Refusal) (n : Numbering) (bytes occupied : List ℕ) (max : ℕ) (picks groups : List ℕ) (k : Refusal)
    → pick_refusal of_map bytes occupied max picks groups ≡ Some k → handed (Err k) picks groups ≡ pick_call of_map n bytes occupied max picks groups
refused of_map n bytes occupied max picks groups k e =
    sym (ap (λ (x : Option Refusal). pick_unless x n (candidates_of bytes) occupied max picks groups) e)

-- the instructions are those of the defined walks
sum_none : (n : Numbering) → ((c : List ℕ) → count_of n c ≡ 0) → (k : ℕ) (cs : List (List ℕ)) → sum (take k (counts_of n cs)) ≡ 0
sum_none n h zero cs = refl
sum_none n h (suc k) [] = refl
sum_none n h (suc k) (c ∷ cs) = omega (arith, h c, sum_none n h k cs)

none-taken : (k : ℕ) → sum (take k []) ≡ 0
none-taken zero = refl
none-taken (suc k) = refl

counts-walked : (n : Numbering) (k : ℕ) (cs : List (List ℕ)) → sum (take k (counts_of n cs)) ≡ sum (take k (walk_counts n cs))
counts-walked (by_map m) k cs = refl
counts-walked by_prefixes k cs = sum_none by_prefixes (λ c. refl) k cs ∙ sym (none-taken k)
counts-walked by_old_prefixes k cs = sum_none by_old_prefixes (λ c. refl) k cs ∙ sym (none-taken k)

-- where the list is not refused and the check passes the map, the two calls are one
module _ (n : Numbering) (bytes occupied : List ℕ) (max : ℕ) (picks groups : List ℕ) where
  pub checked_is_unchecked : list_refusal bytes occupied ≡ None → check_refusal n ≡ None
      → select_unchecked n bytes occupied max picks groups ≡ select_diverse n bytes occupied max picks groups
  checked_is_unchecked e h =
      ap (λ (x : Option Refusal). pick_unless x n (candidates_of bytes) occupied max picks groups)
      (then_room (limit_refusal n) bytes occupied max picks groups e (check_limit n h) ∙ sym (then_room (check_refusal n) bytes occupied max picks groups e h))

-- the two passes make the pick
module _ (n : Numbering) (bytes occupied : List ℕ) (max : ℕ) (picks groups : List ℕ) (f : First) (picks₁ groups₁ : List ℕ)
    (p : PassedFirst n (candidates_of bytes) occupied max picks groups f picks₁ groups₁) where
  -- the first pass's picks stand in front
  pub first_in_front : take f.taken picks₁ ≡ (first n (candidates_of bytes) occupied max).places
  first_in_front =
      ap (λ (k : ℕ). take k picks₁) p.taken ∙ ap (λ (l : List ℕ). take (length (first n (candidates_of bytes) occupied max).places) l) p.picks
      ∙ take_written (first n (candidates_of bytes) occupied max).places picks

  pub first_fits : f.taken ≤ length picks₁
  first_fits =
      let fp = (first n (candidates_of bytes) occupied max).places in
      omega (arith, ap length p.picks, length-append fp (drop (length fp) picks), p.taken)

  pub first_are_places : Places (length bytes / 20) (take f.taken picks₁)
  first_are_places =
      let e : length (groups_of n (candidates_of bytes)) ≡ length bytes / 20 = length-groups n (candidates_of bytes) ∙ length_candidates bytes in
      rw (first_in_front) (subst (λ (k : ℕ). Places k (first n (candidates_of bytes) occupied max).places) e (first_places occupied max (groups_of n (candidates_of bytes))))

  module _ (total : ℕ) (picks₂ : List ℕ)
      (q : Filled (fill (candidates_of bytes) max (take f.taken picks₁)) picks₁ total picks₂) where
    all_places : fill (candidates_of bytes) max (take f.taken picks₁) ≡ places n (candidates_of bytes) occupied max
    all_places = ap (λ (l : List ℕ). fill (candidates_of bytes) max l) first_in_front

    begins : Begins (first n (candidates_of bytes) occupied max).places (places n (candidates_of bytes) occupied max)
    begins = fill_begins (candidates_of bytes) max (first n (candidates_of bytes) occupied max).places

    picks_out : picks₂ ≡ written (places n (candidates_of bytes) occupied max) picks
    picks_out =
        q.picks ∙ ap (λ (l : List ℕ). written l picks₁) all_places
        ∙ ap (λ (l : List ℕ). written (places n (candidates_of bytes) occupied max) l) p.picks
        ∙ written_over (first n (candidates_of bytes) occupied max).places (places n (candidates_of bytes) occupied max) picks (begins_length _ _ begins)

    abbrev pub made : Totals
    made = record { total = total; first = f.taken; examined = f.examined; instructions = f.instructions }

    pub picked-whole : (of_map : Option Refusal) → pick_refusal of_map bytes occupied max picks groups ≡ None
        → handed (Ok made) picks₂ groups₁ ≡ pick_call of_map n bytes occupied max picks groups
    picked-whole of_map z = rw (z, q.total, all_places, p.taken, p.examined, p.instructions, picks_out, p.groups)

    front : take (length (first n (candidates_of bytes) occupied max).places) (written (places n (candidates_of bytes) occupied max) picks) ≡ (first n (candidates_of bytes) occupied max).places
    front =
        take-append-le (length (first n (candidates_of bytes) occupied max).places) (places n (candidates_of bytes) occupied max) _ (begins_length _ _ begins)
        ∙ begins_take _ _ begins

    groups_front : take (length (first n (candidates_of bytes) occupied max).places) (written (first n (candidates_of bytes) occupied max).groups groups) ≡ (first n (candidates_of bytes) occupied max).groups
    groups_front =
        ap (λ (k : ℕ). take k (written (first n (candidates_of bytes) occupied max).groups groups)) (first_even occupied max (groups_of n (candidates_of bytes)))
        ∙ take_written (first n (candidates_of bytes) occupied max).groups groups

    pub picked_demand : FirstPassed n (candidates_of bytes) occupied max made picks₂ groups₁
    picked_demand = record {
      picks = ap (λ (k : ℕ). take k picks₂) p.taken ∙ ap (λ (l : List ℕ). take (length (first n (candidates_of bytes) occupied max).places) l) picks_out ∙ front;
      groups = ap (λ (k : ℕ). take k groups₁) p.taken ∙ ap (λ (l : List ℕ). take (length (first n (candidates_of bytes) occupied max).places) l) p.groups ∙ groups_front;
      examined = p.examined;
      instructions =
          p.instructions ∙ counts-walked n (first n (candidates_of bytes) occupied max).examined (candidates_of bytes)
          ∙ ap (λ (k : ℕ). sum (take k (walk_counts n (candidates_of bytes)))) (sym p.examined);
    }
