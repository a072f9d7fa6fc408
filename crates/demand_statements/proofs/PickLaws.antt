-- From what the calls of groups and picks promise to what their caller can conclude.
-- Assumes nothing.
use Prim.Native.Nat.{ℕ, zero, suc, ◌*◌, ◌/◌, ◌<◌}
use mathlib.Core.Path.{◌≡◌, ◌∙◌, refl, sym, ap, subst}
use mathlib.Core.List.{List, [], ◌∷◌}
use native.Mathlib.Omega.{arith}
use lib.ListN.{length, take, drop}
use lib.Seq.{take-nil}
use Rattle.asmap_check.specs.Check.{check_of}
use Rattle.asmap_walk_bits.specs.Walk.{walk_of}
use Rattle.netgroup.specs.Group.{Numbering, by_map, by_prefixes, by_old_prefixes, group_of, walk_for}
use Rattle.netgroup.specs.Refusal.{verdict_refusal, check_refusal}
use Rattle.peer_lists.specs.Refusal.{or_else, candidate_refusal}
use Rattle.netgroup.specs.Netgroup.{group_unless, group_call, prefix_group_call, Whole}
use Rattle.netgroup.specs.Ended.{Finished}
use Rattle.peer_lists.specs.Candidates.{candidates_of}
use Rattle.pick_passes.specs.First.{begin, first_pass}
use Rattle.netgroup_pick.specs.Pick.{pick_unless, pick_call}
use Rattle.pick_passes.specs.Ranked.{first, groups_of, sum}
use Rattle.netgroup_pick.specs.PickRefusal.{pick_refusal}
use Rattle.netgroup_pick.specs.Demand.{walk_counts, Demand3, Unaborted}
use Rattle.peer_lists.proofs.Lists.{candidate_at_lem, length_candidates}
use Rattle.pick_passes.proofs.Lists.{length-groups}
use Rattle.answer_outcome.specs.Outcome.{Hands}
use Rattle.answer_maps.specs.Maps.{map_checked}
use Rattle.answer_groups.specs.Groups.{numbering_of, group_found, totals_of, Picks}
use Rattle.answers.proofs.Promised.{found, picked}
use Rattle.demand_statements.specs.Picked.{walk_at, prefix_at, old_prefix_at, Ends, Grouped, Passed, ByMap, ByPrefixes, Picked}
use Rattle.demand_statements.proofs.AnswerLaws.{accepted}
use Rattle.demand_statements.proofs.CandidateLaws.{address_at_lem, prefix_of, prefix_at_lem, old-prefix_of, old-prefix_at, each_candidate, pass_examined}
use Rattle.netgroup_pick.specs.declared.Totals.{Totals}
use Rattle.refusals.specs.declared.Refusal.{Refusal}
use Rattle.std.specs.Prelude.{Result, Ok, Err, Option, Some, None}
use Rattle.refusals.specs.Numbers.{of_map}

-- ---- the walk behind a group

-- what is known of the walk behind a group
ends : (m c : List ℕ) → Finished m c → Ends (walk_for m c)
ends m c f = record { ended = f.ended; zero = f.zero }

-- of the candidate at a place
pub ends_at : (m bytes : List ℕ) (i : ℕ) → Finished m (take 20 (drop (20 * i) bytes)) → Ends (walk_at m bytes i)
ends_at m bytes i f = subst (λ (a : List ℕ). Ends (walk_of m a 128)) (address_at_lem bytes i) (ends m (take 20 (drop (20 * i) bytes)) f)

-- a map whose check answered 0 is not refused
pub unrefused : (m : List ℕ) {q c d : ℕ} {lent : List ℕ} → Hands (map_checked (of_map (check_of m 128))) q lent (c ∷ d ∷ []) → q ≡ 0 → check_refusal (by_map m) ≡ None
unrefused m h z = ap verdict_refusal (accepted (check_of m 128) h z)

-- ---- a group

same_group : (why : Option Refusal) (n : Numbering) (c : List ℕ) (g : ℕ) → group_unless why n c ≡ Ok g → g ≡ group_of n c
same_group None n c g e = cc
same_group (Some k) n c g e = absurd cc

-- wrong: what is wrong with the map; has: whether there is one
pub grouped : (has : ℕ) (wrong : Option Refusal) (m c : List ℕ) {r g : ℕ} {lent : List ℕ}
    → Hands (group_found (group_call wrong (numbering_of has m) c)) r lent (g ∷ [])
    → (r ≡ 0 → Whole (numbering_of has m) c (Ok g)) → r ≡ 0 → Grouped has m c g
unfolding numbering_of
grouped zero wrong m c {r} {g} h w z =
    let e = same_group (or_else (candidate_refusal c) wrong) by_prefixes c g (found (group_call wrong by_prefixes c) h z) in
    record { by_map = λ n. absurd (n refl); by_prefix = λ y. e ∙ prefix_of c }
grouped (suc k) wrong m c {r} {g} h w z =
    let e = same_group (or_else (candidate_refusal c) wrong) (by_map m) c g (found (group_call wrong (by_map m) c) h z) in
    record { by_map = λ n. (e, ends m c (w z)); by_prefix = λ y. absurd (omega arith) }

-- in the old numbering
pub grouped_old : (c : List ℕ) {r g : ℕ} {lent : List ℕ} → Hands (group_found (prefix_group_call c)) r lent (g ∷ []) → r ≡ 0 → g ≡ old_prefix_at c 0
grouped_old c {r} {g} h z = same_group (or_else (candidate_refusal c) None) by_old_prefixes c g (found (prefix_group_call c) h z) ∙ old-prefix_of c

-- by a map that was checked before
pub grouped_loaded : (wrong : Option Refusal) (m c : List ℕ) {r g : ℕ} {lent : List ℕ} → check_refusal (by_map m) ≡ None
    → Hands (group_found (group_call wrong (numbering_of 1 m) c)) r lent (g ∷ [])
    → (check_refusal (numbering_of 1 m) ≡ None → r ≡ 0 → Whole (numbering_of 1 m) c (Ok g)) → r ≡ 0 → Grouped 1 m c g
unfolding numbering_of
grouped_loaded wrong m c q h w z = grouped 1 wrong m c h (w q) z

-- ---- a pick

-- how many the first pass picked
abbrev taken_of : Result Totals Refusal → ℕ
taken_of (Ok t) = t.first
taken_of (Err k) = 0

taken_by : (why : Option Refusal) (n : Numbering) (bytes occupied : List ℕ) (max : ℕ) (picks₀ groups₀ : List ℕ) (total taken examined instructions : ℕ)
    → (pick_unless why n (candidates_of bytes) occupied max picks₀ groups₀).answer ≡ Ok (totals_of total taken examined instructions)
    → taken ≡ length (first n (candidates_of bytes) occupied max).places
taken_by None n bytes occupied max picks₀ groups₀ total taken examined instructions e = sym (ap taken_of e)
taken_by (Some k) n bytes occupied max picks₀ groups₀ total taken examined instructions e = absurd cc

module _ (wrong : Option Refusal) (m bytes occupied : List ℕ) (max : ℕ) (picks₀ groups₀ : List ℕ)
    {r total taken examined instructions : ℕ} {lent picks groups : List ℕ} where
  module _ (n : Numbering) (p : Picks (pick_call wrong n bytes occupied max picks₀ groups₀) r lent (total ∷ taken ∷ examined ∷ instructions ∷ []) picks groups)
      (d : r ≡ 0 → Demand3 n (candidates_of bytes) occupied max (Ok (totals_of total taken examined instructions)) picks groups) (z : r ≡ 0) where
    -- gs: the groups of all candidates
    passed : (gs : List ℕ) → groups_of n (candidates_of bytes) ≡ gs → Passed (first_pass occupied max gs) picks groups taken examined
    passed gs e =
        let f = d z in
        let w = pick_refusal wrong bytes occupied max picks₀ groups₀ in
        subst (λ (l : List ℕ). Passed (first_pass occupied max l) picks groups taken examined) e
        record { same_first = taken_by w n bytes occupied max picks₀ groups₀ total taken examined instructions (picked _ p.hands z); same_picks = f.picks; same_groups = f.groups; same_examined = f.examined }

    -- a candidate examined is one of them
    within : {i : ℕ} → i < examined → i < length bytes / 20
    within h =
        omega (arith, (d z).examined, pass_examined occupied max begin (groups_of n (candidates_of bytes)), length-groups n (candidates_of bytes), length_candidates bytes)

  picked_by-map : Picks (pick_call wrong (by_map m) bytes occupied max picks₀ groups₀) r lent (total ∷ taken ∷ examined ∷ instructions ∷ []) picks groups
      → (r ≡ 0 → Demand3 (by_map m) (candidates_of bytes) occupied max (Ok (totals_of total taken examined instructions)) picks groups)
      → (r ≡ 0 → Unaborted (by_map m) (candidates_of bytes) (Ok (totals_of total taken examined instructions)))
      → r ≡ 0 → ByMap m bytes occupied max picks groups taken examined instructions
  picked_by-map p d u z =
      let k = length bytes / 20 in
      record {
        passed = passed (by_map m) p d z _ (each_candidate (group_of (by_map m)) _ k bytes (λ i. ap (λ a. (walk_of m a 128).number) (address_at_lem bytes i)));
        counted =
            (d z).instructions
            ∙ ap (λ (l : List ℕ). sum (take examined l)) (each_candidate (λ c. length (walk_for m c).read) _ k bytes (λ i. ap (λ a. length (walk_of m a 128).read) (address_at_lem bytes i)));
        ends = λ i h. ends_at m bytes i (subst (Finished m) (candidate_at_lem bytes i (within (by_map m) p d z h)) (u z i h));
      }

  -- n: of which numbering
  picked_by-prefix : (n : Numbering) (prefix : ℕ → ℕ) → walk_counts n (candidates_of bytes) ≡ [] → ((i : ℕ) → group_of n (take 20 (drop (20 * i) bytes)) ≡ prefix i)
      → Picks (pick_call wrong n bytes occupied max picks₀ groups₀) r lent (total ∷ taken ∷ examined ∷ instructions ∷ []) picks groups
      → (r ≡ 0 → Demand3 n (candidates_of bytes) occupied max (Ok (totals_of total taken examined instructions)) picks groups)
      → r ≡ 0 → ByPrefixes prefix bytes occupied max picks groups taken examined instructions
  picked_by-prefix n prefix none at p d z =
      record {
        passed = passed n p d z _ (each_candidate (group_of n) prefix (length bytes / 20) bytes at);
        counted = (d z).instructions ∙ ap (λ (l : List ℕ). sum (take examined l)) none ∙ ap sum (take-nil examined);
      }

  pub picked_old : Picks (pick_call wrong by_old_prefixes bytes occupied max picks₀ groups₀) r lent (total ∷ taken ∷ examined ∷ instructions ∷ []) picks groups
      → (r ≡ 0 → Demand3 by_old_prefixes (candidates_of bytes) occupied max (Ok (totals_of total taken examined instructions)) picks groups)
      → r ≡ 0 → ByPrefixes (old_prefix_at bytes) bytes occupied max picks groups taken examined instructions
  picked_old = picked_by-prefix by_old_prefixes (old_prefix_at bytes) refl (old-prefix_at bytes)

  pub picked_as : (has : ℕ)
      → Picks (pick_call wrong (numbering_of has m) bytes occupied max picks₀ groups₀) r lent (total ∷ taken ∷ examined ∷ instructions ∷ []) picks groups
      → (r ≡ 0 → Demand3 (numbering_of has m) (candidates_of bytes) occupied max (Ok (totals_of total taken examined instructions)) picks groups)
      → (r ≡ 0 → Unaborted (numbering_of has m) (candidates_of bytes) (Ok (totals_of total taken examined instructions)))
      → r ≡ 0 → Picked m bytes occupied max picks groups taken examined instructions has
  unfolding numbering_of
  picked_as zero p d u z = record { by_map = λ n. absurd (n refl); by_prefix = λ y. picked_by-prefix by_prefixes (prefix_at bytes) refl (prefix_at_lem bytes) p d z }
  picked_as (suc k) p d u z = record { by_map = λ n. picked_by-map p d u z; by_prefix = λ y. absurd (omega arith) }

  -- by a map that was checked before
  pub picked_loaded : check_refusal (by_map m) ≡ None
      → Picks (pick_call wrong (numbering_of 1 m) bytes occupied max picks₀ groups₀) r lent (total ∷ taken ∷ examined ∷ instructions ∷ []) picks groups
      → (r ≡ 0 → Demand3 (numbering_of 1 m) (candidates_of bytes) occupied max (Ok (totals_of total taken examined instructions)) picks groups)
      → (check_refusal (numbering_of 1 m) ≡ None → r ≡ 0 → Unaborted (numbering_of 1 m) (candidates_of bytes) (Ok (totals_of total taken examined instructions)))
      → r ≡ 0 → ByMap m bytes occupied max picks groups taken examined instructions
  unfolding numbering_of
  picked_loaded q p d u z = picked_by-map p d (u q) z
