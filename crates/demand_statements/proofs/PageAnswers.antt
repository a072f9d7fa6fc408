-- The numbers of a page, and all that a caller of its calls concludes.
-- Assumes nothing.
use Prim.Native.Nat.{ℕ, zero, suc, ◌*◌, ◌/◌, ◌%◌, ◌≤◌, ◌<◌}
use mathlib.Core.Path.{◌≡◌, ◌∙◌, refl, sym, ap, subst}
use mathlib.Core.Bool.{true}
use mathlib.Core.Logic.{inl, inr, ◌≢◌}
use mathlib.Core.List.{List, [], ◌∷◌}
use native.Mathlib.Omega.{arith}
use borrow.Author.Tests.{eq-eqb, ne_eqb, lt-ltb, le-ltb}
use lib.ListN.{length, take, drop}
use Rattle.asmap_check.specs.Check.{check_of}
use Rattle.asmap_walk_bits.specs.Walk.{walk_of}
use Rattle.peer_lists.specs.Refusal.{or_else, list_refusal}
use Rattle.peer_lists.specs.Candidates.{candidates_of, all_valid}
use Rattle.peer_lists.proofs.Lists.{candidate_at_lem, length_candidates}
use Rattle.netgroup.specs.Group.{Numbering, by_map, by_prefixes, by_old_prefixes, group_of}
use Rattle.netgroup.specs.Refusal.{limit_refusal, check_refusal}
use Rattle.netgroup.specs.Ended.{Finished}
use Rattle.pick_passes.specs.Ranked.{groups_of}
use Rattle.pick_passes.proofs.Lists.{length-groups}
use Rattle.asmap_records.specs.Output.{Making, Made, No, within, answer_of}
use Rattle.asmap_records.proofs.OutputLaws.{made_same}
use Rattle.group_shares.specs.Spread.{spread}
use Rattle.group_shares.proofs.ShareLaws.{spread_most}
use Rattle.page_lines.specs.Line.{page_of}
use Rattle.page_lines.specs.Told.{AllTell}
use Rattle.page_lines.proofs.LineLaws.{length-lines}
use Rattle.spread_page.specs.Page.{page_unless, page_call, spread_page, spread_unchecked, old_prefix_page}
use Rattle.spread_page.specs.Promise.{Told, Unaborted}
use Rattle.spread_page.proofs.PageLaws.{page_made}
use Rattle.answer_outcome.specs.Outcome.{Hands}
use Rattle.answer_maps.specs.Maps.{map_checked}
use Rattle.answer_bytes.specs.Bytes.{byte_count, Writes}
use Rattle.answer_groups.specs.Groups.{numbering_of}
use Rattle.answers.proofs.NeverZeroGroups.{page-numbers, by-limit}
use Rattle.demand_statements.specs.Picked.{each, prefix_at, old_prefix_at}
use Rattle.demand_statements.specs.Printed.{Printed, PrintedByMap, Paged}
use Rattle.demand_statements.specs.AnyInput.{Pages, LoadedPages}
use Rattle.demand_statements.proofs.AnswerLaws.{numbered, refused_as}
use Rattle.demand_statements.proofs.CandidateLaws.{address_at_lem, prefix_at_lem, old-prefix_at, candidates-valid, each_candidate}
use Rattle.demand_statements.proofs.PickLaws.{unrefused, ends_at}
use Rattle.demand_statements.proofs.MapAnswers.{number_1}
use Rattle.demand_statements.proofs.PickAnswers.{check_refused, Of, of_call, of_old, PickNumber, LoadedPick}
use Rattle.demand_statements.proofs.PrintLaws.{printed_page}
use Rattle.demand_statements.proofs.TripLaws as trip
use Rattle.refusals.specs.declared.Refusal.{Refusal}
use Rattle.std.specs.Prelude.{Ok, Option, Some, None}
use Rattle.refusals.specs.declared.Refusal.TheVariants as refusal
use Rattle.refusals.specs.Numbers.{refusal_number, of_map}

-- ---- what is made

made_page : (why : Option Refusal) (n : Numbering) (all : List (List ℕ)) (bs : List ℕ) → page_unless why n all ≡ Made bs → bs ≡ page_of (groups_of n all)
made_page None n all bs e = made_same e
made_page (Some k) n all bs e = absurd cc

-- the bytes written, where the answer is 0; wrong: what is wrong with the map
printed : (wrong : Option Refusal) (n : Numbering) (bytes : List ℕ) {o o' : List ℕ} {r written written' : ℕ} → Writes (page_call wrong n bytes) o o' r (written ∷ []) (written' ∷ [])
    → AllTell (length (groups_of n (candidates_of bytes))) (spread (groups_of n (candidates_of bytes))) → r ≡ 0 → Printed (groups_of n (candidates_of bytes)) (take written' o')
printed wrong n bytes w t z =
    let u = trip.wrote (page_call wrong n bytes) w z in
    let e = u.there ∙ made_page (or_else (list_refusal bytes []) wrong) n (candidates_of bytes) u.bytes u.these in
    subst (Printed (groups_of n (candidates_of bytes))) (sym e) (printed_page (groups_of n (candidates_of bytes)) t)

module _ (wrong : Option Refusal) (m bytes : List ℕ) {o o' : List ℕ} {r written written' : ℕ} where
  printed_by-map : Writes (page_call wrong (by_map m) bytes) o o' r (written ∷ []) (written' ∷ []) → (r ≡ 0 → Told (by_map m) bytes (Ok written'))
      → (r ≡ 0 → Unaborted (by_map m) bytes (Ok written')) → r ≡ 0 → PrintedByMap m bytes (take written' o')
  unfolding Told Unaborted
  printed_by-map w t u z =
      let k = length bytes / 20 in
      record {
        printed =
            subst (λ (gs : List ℕ). Printed gs (take written' o')) (each_candidate (group_of (by_map m)) _ k bytes (λ i. ap (λ a. (walk_of m a 128).number) (address_at_lem bytes i)))
            (printed wrong (by_map m) bytes w (t z) z);
        ends = λ i h. ends_at m bytes i (subst (Finished m) (candidate_at_lem bytes i h) (u z i (omega (arith, length_candidates bytes))));
      }

  -- n: of which numbering
  printed_by-prefix : (n : Numbering) (prefix : ℕ → ℕ) → ((i : ℕ) → group_of n (take 20 (drop (20 * i) bytes)) ≡ prefix i)
      → Writes (page_call wrong n bytes) o o' r (written ∷ []) (written' ∷ []) → (r ≡ 0 → Told n bytes (Ok written')) → r ≡ 0 → Printed (each (length bytes / 20) prefix) (take written' o')
  unfolding Told
  printed_by-prefix n prefix at w t z =
      subst (λ (gs : List ℕ). Printed gs (take written' o')) (each_candidate (group_of n) prefix (length bytes / 20) bytes at) (printed wrong n bytes w (t z) z)

  paged_as : (has : ℕ) → Writes (page_call wrong (numbering_of has m) bytes) o o' r (written ∷ []) (written' ∷ [])
      → (r ≡ 0 → Told (numbering_of has m) bytes (Ok written')) → (r ≡ 0 → Unaborted (numbering_of has m) bytes (Ok written'))
      → r ≡ 0 → Paged has m bytes (take written' o')
  unfolding numbering_of
  paged_as zero w t u z = record { by_map = λ n. absurd (n refl); by_prefix = λ y. printed_by-prefix by_prefixes (prefix_at bytes) (prefix_at_lem bytes) w t z }
  paged_as (suc k) w t u z = record { by_map = λ n. printed_by-map w t u z; by_prefix = λ y. absurd (omega arith) }

-- ---- the paper's order

module _ (wrong : Option Refusal) (n : Numbering) (bytes : List ℕ) where
  thirteen : length bytes % 20 ≢ 0 → page_call wrong n bytes ≡ No refusal.Candidate
  thirteen e = rw (ne_eqb (length bytes % 20) 0 e)

  twelve : length bytes % 20 ≡ 0 → 4096 < length bytes / 20 → page_call wrong n bytes ≡ No refusal.TooMany
  twelve e l = rw (eq-eqb (length bytes % 20) 0 e, lt-ltb 4096 (length bytes / 20) l)

  passes : length bytes % 20 ≡ 0 → length bytes / 20 ≤ 4096 → all_valid (candidates_of bytes) ≡ true → list_refusal bytes [] ≡ None
  passes e k v = rw (eq-eqb (length bytes % 20) 0 e, le-ltb 4096 (length bytes / 20) k, v)

  -- 25 bytes for each candidate are enough
  enough : (o : List ℕ) → 25 * (length bytes / 20) ≤ length o → length (page_of (groups_of n (candidates_of bytes))) ≤ length o
  enough o h =
      let gs = groups_of n (candidates_of bytes) in
      omega (arith, length-lines (length gs) (spread gs), spread_most gs, length-groups n (candidates_of bytes), length_candidates bytes)

refused_with : (made : Making) {o o' : List ℕ} {k : Refusal} {r written written' : ℕ} → made ≡ No k → Writes made o o' r (written ∷ []) (written' ∷ []) → r ≡ refusal_number k
unfolding byte_count
refused_with made {o} e w = refused_as _ (ap (λ (x : Making). byte_count (answer_of (within (length o) x))) e) w.hands

pages : (has : ℕ) (m bytes o o' : List ℕ) (n : Numbering) → Of has m n → {r written written' : ℕ} → Writes (page_call (check_refusal n) n bytes) o o' r (written ∷ []) (written' ∷ [])
    → Pages has m bytes o o' r written written'
pages has m bytes o o' n of w =
    let c = check_refusal n in
    let made = page_call c n bytes in
    let P = PickNumber has in
    record {
      numbers = numbered P _ (page-numbers P (length o) bytes c n (inl refl) (inr (inl refl)) (inr (inr (inl refl))) (of.numbers P (λ h k t. inr (inr (inr (h, t)))))) w.hands;
      no_candidates = λ e. refused_with made (thirteen c n bytes e) w;
      too_many = λ e l. refused_with made (twelve c n bytes e l) w;
      answered = λ e k v u h.
          trip.has_room made (page_of (groups_of n (candidates_of bytes))) o o' (page_made c n bytes (passes c n bytes e k (candidates-valid bytes v)) (of.passes u)) (enough c n bytes o h) w;
      past = λ z. (trip.wrote made w z).past;
      untouched = trip.left_alone made w;
    }

loaded_pages : (m bytes o o' : List ℕ) {r written written' : ℕ} → Writes (page_call (limit_refusal (numbering_of 1 m)) (numbering_of 1 m) bytes) o o' r (written ∷ []) (written' ∷ [])
    → LoadedPages o o' r written written'
loaded_pages m bytes o o' w =
    let n = numbering_of 1 m in
    let c = limit_refusal n in
    let made = page_call c n bytes in
    record {
      numbers = numbered LoadedPick _ (page-numbers LoadedPick (length o) bytes c n (inl refl) (inr (inl refl)) (inr (inr (inl refl))) (by-limit LoadedPick n (inr (inr (inr number_1))))) w.hands;
      past = λ z. (trip.wrote made w z).past;
      untouched = trip.left_alone made w;
    }

-- ---- what the callers conclude

module _ (m bytes o o' : List ℕ) {r written written' : ℕ} where
  pub page_concluded : (has : ℕ) → Writes (spread_page (numbering_of has m) bytes) o o' r (written ∷ []) (written' ∷ [])
      → (r ≡ 0 → Told (numbering_of has m) bytes (Ok written')) → (r ≡ 0 → Unaborted (numbering_of has m) bytes (Ok written'))
      → (r ≡ 0 → Paged has m bytes (take written' o')) × Pages has m bytes o o' r written written'
  unfolding spread_page
  page_concluded has w t u =
      let n = numbering_of has m in
      (paged_as (check_refusal n) m bytes has w t u, pages has m bytes o o' n (of_call has m) w)

  -- the check answered q, 0
  pub loaded_page_concluded : {q k d : ℕ} {lent : List ℕ} → Hands (map_checked (of_map (check_of m 128))) q lent (k ∷ d ∷ []) → q ≡ 0
      → Writes (spread_unchecked (numbering_of 1 m) bytes) o o' r (written ∷ []) (written' ∷ [])
      → (r ≡ 0 → Told (numbering_of 1 m) bytes (Ok written'))
      → (check_refusal (numbering_of 1 m) ≡ None → r ≡ 0 → Unaborted (numbering_of 1 m) bytes (Ok written'))
      → (r ≡ 0 → PrintedByMap m bytes (take written' o')) × LoadedPages o o' r written written'
  unfolding spread_unchecked numbering_of
  loaded_page_concluded v z w t u = (printed_by-map (limit_refusal (by_map m)) m bytes w t (u (unrefused m v z)), loaded_pages m bytes o o' w)

-- in the old numbering
pub old_page_concluded : (bytes o o' : List ℕ) {r written written' : ℕ} → Writes (old_prefix_page bytes) o o' r (written ∷ []) (written' ∷ []) → (r ≡ 0 → Told by_old_prefixes bytes (Ok written'))
    → (r ≡ 0 → Printed (each (length bytes / 20) (old_prefix_at bytes)) (take written' o')) × Pages 0 [] bytes o o' r written written'
unfolding old_prefix_page
old_page_concluded bytes o o' w t =
    (printed_by-prefix None [] bytes by_old_prefixes (old_prefix_at bytes) (old-prefix_at bytes) w t, pages 0 [] bytes o o' by_old_prefixes of_old w)

-- the check refused, and nothing was written
pub not_paged : (m bytes o : List ℕ) {r written : ℕ} {lent left : List ℕ} → Hands (map_checked (of_map (check_of m 128))) r lent left → (r ≡ 0 → ⊥)
    → (r ≡ 0 → PrintedByMap m bytes (take written o)) × LoadedPages o o r written written
not_paged m bytes o h n = (λ z. absurd (n z), record { numbers = inr (inr (inr (inr (check_refused m h n)))); past = λ z. refl; untouched = λ k. (refl, refl) })
