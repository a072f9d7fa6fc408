-- The numbers of groups and picks, and all that a caller of each call concludes.
-- Assumes nothing.
use Prim.Native.Nat.{ℕ, zero, suc, ◌/◌, ◌%◌, ◌≤◌, ◌<◌, min}
use mathlib.Core.Path.{◌≡◌, refl, ap, ap₂}
use mathlib.Core.Bool.{true}
use mathlib.Core.Logic.{◌⊎◌, inl, inr, ◌≢◌}
use mathlib.Core.List.{List, [], ◌∷◌}
use native.Mathlib.Omega.{arith}
use borrow.Author.Tests.{eq-eqb, ne_eqb, lt-ltb, le-ltb}
use lib.Dec.{ltb}
use lib.ListN.{length}
use Rattle.asmap_check.specs.Check.{check_of}
use Rattle.candidate_bytes.specs.Candidate.{valid}
use Rattle.netgroup.specs.Group.{Numbering, by_map, by_old_prefixes}
use Rattle.netgroup.specs.Refusal.{verdict_refusal, limit_refusal, check_refusal}
use Rattle.peer_lists.specs.Refusal.{or_else, refuse_if, candidate_refusal, list_refusal}
use Rattle.netgroup.specs.Netgroup.{group_unless, prefix_group_call, netgroup_of, netgroup_unchecked, Whole}
use Rattle.peer_lists.proofs.Refusals.{none_first, none-later, none_more}
use Rattle.peer_lists.specs.Candidates.{candidates_of, all_valid}
use Rattle.netgroup_pick.specs.PickRefusal.{room_refusal, pick_refusal}
use Rattle.netgroup_pick.specs.Demand.{Demand3, Unaborted}
use Rattle.netgroup_pick.specs.Pick.{pick_unless, select_diverse, select_unchecked, old_prefix_pick}
use Rattle.answer_outcome.specs.Outcome.{handed, IsDone, Hands}
use Rattle.answer_maps.specs.Maps.{map_checked}
use Rattle.answer_groups.specs.Groups.{numbering_of, group_found, totals_of, pick_made}
use Rattle.answer_groups.specs.Groups as call
use Rattle.answers.proofs.NeverZeroGroups.{From, by_check, by-limit, group-numbers, pick-numbers}
use Rattle.demand_statements.specs.Picked.{old_prefix_at, Grouped, ByMap, ByPrefixes, Picked}
use Rattle.demand_statements.specs.AnyInput.{CheckNumber, Usable, Groups, LoadedGroups, Picks, LoadedPicks}
use Rattle.demand_statements.proofs.AnswerLaws.{kept, numbered, refused_as, done_as}
use Rattle.demand_statements.proofs.CandidateLaws.{candidate_passes, candidates-valid}
use Rattle.demand_statements.proofs.MapAnswers.{reason-number, number_1, check-number}
use Rattle.demand_statements.proofs.PickLaws.{unrefused, grouped, grouped_old, grouped_loaded, picked_as, picked_old, picked_loaded}
use Rattle.refusals.specs.declared.Refusal.{Refusal}
use Rattle.std.specs.Prelude.{Ok, Option, Some, None}
use Rattle.refusals.specs.declared.Refusal.TheVariants as refusal
use Rattle.refusals.specs.Numbers.{refusal_number, of_map}

pub check_refused : (m : List ℕ) {r : ℕ} {entry exit : List ℕ} → Hands (map_checked (of_map (check_of m 128))) r entry exit → (r ≡ 0 → ⊥) → CheckNumber r
check_refused m {r} h n = some (check-number m 128 h)
  where
    some : (r ≡ 0) ⊎ CheckNumber r → CheckNumber r
    some (inl z) = absurd (n z)
    some (inr k) = k

-- What a call's numbering n is, with the map m where there is one: its refusals are those of the check, and a map that can be used is not refused.
pub record Of (has : ℕ) (m : List ℕ) (n : Numbering) : Type 1 where
  pub numbers : (P : ℕ → Type 0) → (has ≢ 0 → (k : ℕ) → CheckNumber k → P k) → From P (check_refusal n)
  pub passes : Usable has m → check_refusal n ≡ None

-- a call with a map says so
of_map_lem : (P : ℕ → Type 0) (has : ℕ) (m : List ℕ) → (has ≢ 0 → (n : ℕ) → CheckNumber n → P n) → From P (check_refusal (numbering_of has m))
unfolding numbering_of
of_map_lem P zero m h = tt
of_map_lem P (suc k) m h = by_check P (by_map m) (h (λ z. omega arith) 1 number_1) (λ n q. h (λ z. omega arith) n (reason-number n q))

-- nothing is wrong with a map that can be used
map_passes : (has : ℕ) (m : List ℕ) → Usable has m → check_refusal (numbering_of has m) ≡ None
unfolding numbering_of
map_passes zero m u = refl
map_passes (suc k) m u = ap verdict_refusal (u (λ z. omega arith)).2

pub of_call : (has : ℕ) (m : List ℕ) → Of has m (numbering_of has m)
of_call has m = record { numbers = λ P h. of_map_lem P has m h; passes = map_passes has m }

pub of_old : Of 0 [] by_old_prefixes
of_old = record { numbers = λ P h. tt; passes = λ u. refl }

-- ---- a group

abbrev GroupNumber : ℕ → ℕ → Type 0
GroupNumber has n = (n ≡ 13) ⊎ ((has ≢ 0) × CheckNumber n)

none_there : (c : List ℕ) → length c ≢ 20 → candidate_refusal c ≡ Some refusal.Candidate
unfolding valid
none_there c n = rw (ne_eqb (length c) 20 n)

groups : (has : ℕ) (m c : List ℕ) (n : Numbering) → Of has m n → {r : ℕ} {entry exit : List ℕ} → Hands (group_found (netgroup_of n c)) r entry exit → Groups has m c r entry exit
unfolding group_found
groups has m c n o h =
    record {
      numbers = numbered (GroupNumber has) _ (group-numbers (GroupNumber has) (check_refusal n) n c (inl refl) (o.numbers (GroupNumber has) (λ w k t. inr (w, t)))) h;
      no_candidate = λ e. refused_as _ (ap (λ (w : Option Refusal). group_found (group_unless (or_else w (check_refusal n)) n c)) (none_there c e)) h;
      answered = λ l k u. done_as _ (ap₂ (λ (v w : Option Refusal). group_found (group_unless (or_else v w) n c)) (candidate_passes c l k) (o.passes u)) h;
      untouched = kept _ h;
    }

-- what the caller of a group call concludes
pub group_concluded : (has : ℕ) (m c : List ℕ) {r g g' : ℕ} → Hands (group_found (netgroup_of (numbering_of has m) c)) r (g ∷ []) (g' ∷ [])
    → (r ≡ 0 → Whole (numbering_of has m) c (Ok g')) → (r ≡ 0 → Grouped has m c g') × Groups has m c r (g ∷ []) (g' ∷ [])
group_concluded has m c h w =
    (grouped has (check_refusal (numbering_of has m)) m c h w, groups has m c (numbering_of has m) (of_call has m) h)

pub prefix_concluded : (c : List ℕ) {r g g' : ℕ} → Hands (group_found (prefix_group_call c)) r (g ∷ []) (g' ∷ [])
    → (r ≡ 0 → g' ≡ old_prefix_at c 0) × Groups 0 [] c r (g ∷ []) (g' ∷ [])
prefix_concluded c h = (grouped_old c h, groups 0 [] c by_old_prefixes of_old h)

-- the check refused, and nothing was written
pub not_grouped : (m c : List ℕ) {r g : ℕ} {lent left : List ℕ} → Hands (map_checked (of_map (check_of m 128))) r lent left → (r ≡ 0 → ⊥)
    → (r ≡ 0 → Grouped 1 m c g) × LoadedGroups r (g ∷ []) (g ∷ [])
not_grouped m c h n = (λ z. absurd (n z), record { numbers = inr (inr (check_refused m h n)); untouched = λ k. refl })

abbrev LoadedGroup : ℕ → Type 0
LoadedGroup n = (n ≡ 13) ⊎ CheckNumber n

loaded_groups : (m c : List ℕ) {r : ℕ} {entry exit : List ℕ}
    → Hands (group_found (netgroup_unchecked (numbering_of 1 m) c)) r entry exit → LoadedGroups r entry exit
loaded_groups m c h =
    let n = numbering_of 1 m in
    record {
      numbers = numbered LoadedGroup _ (group-numbers LoadedGroup (limit_refusal n) n c (inl refl) (by-limit LoadedGroup n (inr number_1))) h;
      untouched = kept _ h;
    }

-- the check answered q, 0
pub loaded_concluded : (m c : List ℕ) {q k d r g g' : ℕ} {lent : List ℕ} → Hands (map_checked (of_map (check_of m 128))) q lent (k ∷ d ∷ []) → q ≡ 0
    → Hands (group_found (netgroup_unchecked (numbering_of 1 m) c)) r (g ∷ []) (g' ∷ [])
    → (check_refusal (numbering_of 1 m) ≡ None → r ≡ 0 → Whole (numbering_of 1 m) c (Ok g'))
    → (r ≡ 0 → Grouped 1 m c g') × LoadedGroups r (g ∷ []) (g' ∷ [])
loaded_concluded m c v z h w = (grouped_loaded (limit_refusal (numbering_of 1 m)) m c (unrefused m v z) h w, loaded_groups m c h)

-- ---- a pick

abbrev pub PickNumber : ℕ → ℕ → Type 0
PickNumber has n = (n ≡ 12) ⊎ ((n ≡ 13) ⊎ ((n ≡ 14) ⊎ ((has ≢ 0) × CheckNumber n)))

abbrev pub LoadedPick : ℕ → Type 0
LoadedPick n = (n ≡ 12) ⊎ ((n ≡ 13) ⊎ ((n ≡ 14) ⊎ CheckNumber n))

module _ (n : Numbering) (bytes occupied : List ℕ) (max : ℕ) (picks groups : List ℕ) where
  -- what a refusal leaves, by the reason
  left_alone : (why : Option Refusal) {r : ℕ} {lent left picks' groups' : List ℕ}
      → call.Picks (pick_unless why n (candidates_of bytes) occupied max picks groups) r lent left picks' groups' → (r ≡ 0 → ⊥) → (picks' ≡ picks) × (groups' ≡ groups)
  unfolding handed pick_made
  left_alone None {r} p k = let e = p.hands.numbers in let z : r ≡ 0 = cc in absurd (k z)
  left_alone (Some j) p k = (p.picks_left, p.groups_left)

  -- 0 says that there is no reason
  no_reason : (why : Option Refusal) {r : ℕ} {lent left : List ℕ}
      → Hands (pick_made (pick_unless why n (candidates_of bytes) occupied max picks groups).answer) r lent left → r ≡ 0 → why ≡ None
  unfolding IsDone pick_made
  no_reason None h z = refl
  no_reason (Some j) h z = absurd (h.zero_is_done z)

  reason : (why : Option Refusal) {k : Refusal} {r : ℕ} {lent left : List ℕ} → why ≡ Some k
      → Hands (pick_made (pick_unless why n (candidates_of bytes) occupied max picks groups).answer) r lent left → r ≡ refusal_number k
  unfolding pick_made
  reason why e h = refused_as _ (ap (λ (w : Option Refusal). pick_made (pick_unless w n (candidates_of bytes) occupied max picks groups).answer) e) h

  done_by : (why : Option Refusal) {r : ℕ} {lent left : List ℕ} → why ≡ None
      → Hands (pick_made (pick_unless why n (candidates_of bytes) occupied max picks groups).answer) r lent left → r ≡ 0
  unfolding pick_made
  done_by why e h = done_as _ (ap (λ (w : Option Refusal). pick_made (pick_unless w n (candidates_of bytes) occupied max picks groups).answer) e) h

-- the paper's order: 13 for the length, 12, 12; wrong: what is wrong with the map
module _ (wrong : Option Refusal) (bytes occupied : List ℕ) (max : ℕ) (picks groups : List ℕ) where
  thirteen : length bytes % 20 ≢ 0 → pick_refusal wrong bytes occupied max picks groups ≡ Some refusal.Candidate
  thirteen e = rw (ne_eqb (length bytes % 20) 0 e)

  twelve : length bytes % 20 ≡ 0 → 4096 < length bytes / 20 → pick_refusal wrong bytes occupied max picks groups ≡ Some refusal.TooMany
  twelve e l = rw (eq-eqb (length bytes % 20) 0 e, lt-ltb 4096 (length bytes / 20) l)

  twelve_occupied : length bytes % 20 ≡ 0 → length bytes / 20 ≤ 4096 → 4096 < length occupied → pick_refusal wrong bytes occupied max picks groups ≡ Some refusal.TooMany
  twelve_occupied e k l = rw (eq-eqb (length bytes % 20) 0 e, le-ltb 4096 (length bytes / 20) k, lt-ltb 4096 (length occupied) l)

  passes : length bytes % 20 ≡ 0 → length bytes / 20 ≤ 4096 → length occupied ≤ 4096 → all_valid (candidates_of bytes) ≡ true → wrong ≡ None
      → min max (length bytes / 20) ≤ length picks → min max (length bytes / 20) ≤ length groups → pick_refusal wrong bytes occupied max picks groups ≡ None
  passes e k l v u a b =
      let most = min max (length bytes / 20) in
      rw (eq-eqb (length bytes % 20) 0 e, le-ltb 4096 (length bytes / 20) k, le-ltb 4096 (length occupied) l, v, u, le-ltb (length picks) most a, le-ltb (length groups) most b)

  roomy : pick_refusal wrong bytes occupied max picks groups ≡ None
      → (min max (length bytes / 20) ≤ length picks) × (min max (length bytes / 20) ≤ length groups)
  roomy e =
      let most = min max (length bytes / 20) in
      let r = none-later wrong (room_refusal (length bytes / 20) max picks groups) (none-later (list_refusal bytes occupied) _ e) in (
        none_more (length picks) most refusal.OutputTooShort (none_first (refuse_if (ltb (length picks) most) refusal.OutputTooShort) _ r),
        none_more (length groups) most refusal.OutputTooShort (none-later (refuse_if (ltb (length picks) most) refusal.OutputTooShort) _ r),
      )

picks : (has : ℕ) (m bytes occupied : List ℕ) (max : ℕ) (ps gs : List ℕ) (n : Numbering) → Of has m n → {r : ℕ} {entry exit ps' gs' : List ℕ}
    → call.Picks (select_diverse n bytes occupied max ps gs) r entry exit ps' gs'
    → Picks has m bytes occupied max r entry exit ps ps' gs gs'
picks has m bytes occupied max ps gs n of p =
    let o = check_refusal n in
    let why = pick_refusal o bytes occupied max ps gs in
    let P = PickNumber has in
    record {
      numbers = numbered P _ (pick-numbers P bytes occupied max ps gs o n (inl refl) (inr (inl refl)) (inr (inr (inl refl))) (of.numbers P (λ w k t. inr (inr (inr (w, t)))))) p.hands;
      no_candidates = λ e. reason n bytes occupied max ps gs why (thirteen o bytes occupied max ps gs e) p.hands;
      too_many = λ e l. reason n bytes occupied max ps gs why (twelve o bytes occupied max ps gs e l) p.hands;
      too_occupied = λ e k l. reason n bytes occupied max ps gs why (twelve_occupied o bytes occupied max ps gs e k l) p.hands;
      room = λ z. roomy o bytes occupied max ps gs (no_reason n bytes occupied max ps gs why p.hands z);
      answered = λ e k l v u a b.
          done_by n bytes occupied max ps gs why (passes o bytes occupied max ps gs e k l (candidates-valid bytes v) (of.passes u) a b) p.hands;
      untouched = kept _ p.hands;
      picks_untouched = λ k. (left_alone n bytes occupied max ps gs why p k).0;
      groups_untouched = λ k. (left_alone n bytes occupied max ps gs why p k).1;
    }

loaded_picks : (m bytes occupied : List ℕ) (max : ℕ) (ps gs : List ℕ) {r : ℕ} {entry exit ps' gs' : List ℕ}
    → call.Picks (select_unchecked (numbering_of 1 m) bytes occupied max ps gs) r entry exit ps' gs' → LoadedPicks r entry exit ps ps' gs gs'
loaded_picks m bytes occupied max ps gs p =
    let n = numbering_of 1 m in
    let o = limit_refusal n in
    let why = pick_refusal o bytes occupied max ps gs in
    record {
      numbers = numbered LoadedPick _ (pick-numbers LoadedPick bytes occupied max ps gs o n (inl refl) (inr (inl refl)) (inr (inr (inl refl))) (by-limit LoadedPick n (inr (inr (inr number_1))))) p.hands;
      untouched = kept _ p.hands;
      picks_untouched = λ k. (left_alone n bytes occupied max ps gs why p k).0;
      groups_untouched = λ k. (left_alone n bytes occupied max ps gs why p k).1;
    }

-- what the caller of a pick concludes
module _ (m bytes occupied : List ℕ) (max : ℕ) (ps gs : List ℕ) {r total taken examined instructions : ℕ} {entry ps' gs' : List ℕ} where
  pub pick_concluded : (has : ℕ)
      → call.Picks (select_diverse (numbering_of has m) bytes occupied max ps gs) r entry (total ∷ taken ∷ examined ∷ instructions ∷ []) ps' gs'
      → (r ≡ 0 → Demand3 (numbering_of has m) (candidates_of bytes) occupied max (Ok (totals_of total taken examined instructions)) ps' gs')
      → (r ≡ 0 → Unaborted (numbering_of has m) (candidates_of bytes) (Ok (totals_of total taken examined instructions)))
      → (r ≡ 0 → Picked m bytes occupied max ps' gs' taken examined instructions has)
      × Picks has m bytes occupied max r entry (total ∷ taken ∷ examined ∷ instructions ∷ []) ps ps' gs gs'
  pick_concluded has p d u =
      let n = numbering_of has m in
      (picked_as (check_refusal n) m bytes occupied max ps gs has p d u, picks has m bytes occupied max ps gs n (of_call has m) p)

  -- the check answered q, 0
  pub loaded_pick_concluded : {q k d : ℕ} {lent : List ℕ} → Hands (map_checked (of_map (check_of m 128))) q lent (k ∷ d ∷ []) → q ≡ 0
      → call.Picks (select_unchecked (numbering_of 1 m) bytes occupied max ps gs) r entry (total ∷ taken ∷ examined ∷ instructions ∷ []) ps' gs'
      → (r ≡ 0 → Demand3 (numbering_of 1 m) (candidates_of bytes) occupied max (Ok (totals_of total taken examined instructions)) ps' gs')
      → (check_refusal (numbering_of 1 m) ≡ None → r ≡ 0 → Unaborted (numbering_of 1 m) (candidates_of bytes) (Ok (totals_of total taken examined instructions)))
      → (r ≡ 0 → ByMap m bytes occupied max ps' gs' taken examined instructions)
      × LoadedPicks r entry (total ∷ taken ∷ examined ∷ instructions ∷ []) ps ps' gs gs'
  loaded_pick_concluded v z p d u =
      (picked_loaded (limit_refusal (numbering_of 1 m)) m bytes occupied max ps gs (unrefused m v z) p d u, loaded_picks m bytes occupied max ps gs p)

-- in the old numbering
pub old_pick_concluded : (bytes occupied : List ℕ) (max : ℕ) (ps gs : List ℕ) {r total taken examined instructions : ℕ} {entry ps' gs' : List ℕ}
    → call.Picks (old_prefix_pick bytes occupied max ps gs) r entry (total ∷ taken ∷ examined ∷ instructions ∷ []) ps' gs'
    → (r ≡ 0 → Demand3 by_old_prefixes (candidates_of bytes) occupied max (Ok (totals_of total taken examined instructions)) ps' gs')
    → (r ≡ 0 → ByPrefixes (old_prefix_at bytes) bytes occupied max ps' gs' taken examined instructions)
    × Picks 0 [] bytes occupied max r entry (total ∷ taken ∷ examined ∷ instructions ∷ []) ps ps' gs gs'
old_pick_concluded bytes occupied max ps gs p d = (picked_old None [] bytes occupied max ps gs p d, picks 0 [] bytes occupied max ps gs by_old_prefixes of_old p)

-- the check refused, and nothing was written
pub not_picked : (m bytes occupied : List ℕ) (max : ℕ) (ps gs : List ℕ) {r total taken examined instructions : ℕ} {lent left : List ℕ} → Hands (map_checked (of_map (check_of m 128))) r lent left → (r ≡ 0 → ⊥)
    → (r ≡ 0 → ByMap m bytes occupied max ps gs taken examined instructions)
    × LoadedPicks r (total ∷ taken ∷ examined ∷ instructions ∷ []) (total ∷ taken ∷ examined ∷ instructions ∷ []) ps ps gs gs
not_picked m bytes occupied max ps gs h n =
    (λ z. absurd (n z), record { numbers = inr (inr (inr (inr (check_refused m h n)))); untouched = λ k. refl; picks_untouched = λ k. refl; groups_untouched = λ k. refl })
