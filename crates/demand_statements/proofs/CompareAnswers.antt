-- From what the comparison's calls promise to what a caller of any two maps can tell.
-- Assumes nothing.
use Prim.Native.Nat.{ℕ, ◌+◌}
use mathlib.Core.Bool.{Bool, true, false}
use mathlib.Core.Path.{◌≡◌, refl, sym, ap, ◌∙◌}
use mathlib.Core.List.{List, [], ◌∷◌, ◌++◌}
use mathlib.Core.Logic.{◌⊎◌, inl, inr}
use native.Mathlib.Omega.{arith}
use lib.Dec.{ltb}
use lib.ListN.{length, drop}
use lib.Seq.{drop-append_seam}
use borrow.Author.Tests.{lt-ltb, le-ltb}
use Rattle.asmap_check.specs.Check.{check_of, Reason}
use Rattle.asmap_records.specs.Output.{Made, refuse, within, answer_of, leaves}
use Rattle.prefix_changes.specs.Change.{Change}
use Rattle.prefix_changes.specs.Record.{change_records_of, first_changed}
use Rattle.asmap_changes.specs.Changes.{changes_of}
use Rattle.asmap_compare.specs.Compare.{Comparison, Told, Refuses, comparison, records_made, compare_of, first_made, needed_with}
use Rattle.asmap_compare.specs.Promise.{Compares}
use Rattle.asmap_walk.specs.Interpret.{interpret_over}
use Rattle.prefix_changes.proofs.RecordLaws.{length-changes}
use Rattle.asmap_compare.proofs.CallLaws.{told, old_refused, new_refused, first-length}
use Rattle.answer_outcome.specs.Outcome.{handed, IsDone, Hands}
use Rattle.answer_maps.specs.Maps.{walk_made}
use Rattle.answer_bytes.specs.Bytes.{byte_count, Writes, Finds}
use Rattle.answers.proofs.NeverZeroMaps.{map-numbers, compare-numbers, find-numbers}
use Rattle.demand_statements.specs.AnyInput.{CheckNumber, NewMapNumber, Changes, FindsFirst}
use Rattle.demand_statements.specs.Agreed.{AgreedWalks}
use Rattle.demand_statements.proofs.AnswerLaws.{kept, numbered, refused_as, done_as}
use Rattle.demand_statements.proofs.TripLaws.{wrote, left_alone}
use Rattle.demand_statements.proofs.WalkLaws.{has-bits, Ends}
use Rattle.demand_statements.proofs.MapAnswers.{reason-number, number_1}
use Rattle.demand_statements.proofs.ListAnswers.{walk-number}
use Rattle.asmap_program.specs.Verdict.{Accepted, Verdict}
use Rattle.std.specs.Prelude.{Err, Ok}
use Rattle.refusals.specs.declared.Refusal.TheVariants as refusal

-- a number that either check, or a room too short, gives
abbrev OfTwo : ℕ → Type 0
OfTwo n = CheckNumber n ⊎ ((n ≡ 14) ⊎ NewMapNumber n)

-- the check's numbers, of the old map and of the new one
of_old : (n : ℕ) → Reason n → OfTwo n
of_old n h = inl (reason-number n h)

of_new : (n : ℕ) → Reason n → OfTwo (100 + n)
of_new n (inl h) = inr (inr (inl (omega arith, omega arith)))
of_new n (inr e) = inr (inr (inr (omega arith)))

-- ---- the comparison

pub changed : (m n : List ℕ) (w : ℕ) (o o' : List ℕ) {r written written' : ℕ} → Writes (compare_of m n w) o o' r (written ∷ []) (written' ∷ []) → Changes m n w o o' r written written'
unfolding byte_count
changed m n w o o' v = record {
  numbers = numbered OfTwo _
      (compare-numbers OfTwo m n w (map-numbers OfTwo of_old m w (inl number_1))
      (map-numbers (λ k. OfTwo (100 + k)) of_new n w (inr (inr (inl (omega arith, omega arith))))) (length o) (inr (inl refl))) v.hands;
  old_refused = λ f e. refused_as _ (ap (λ (x : Comparison). byte_count (answer_of (within (length o) (records_made x)))) (old_refused m n w f e)) v.hands;
  new_refused = λ c d f e g. refused_as _ (ap (λ (x : Comparison). byte_count (answer_of (within (length o) (records_made x)))) (new_refused m n w c d f e g)) v.hands;
  past = λ z. (wrote (compare_of m n w) v z).past;
  untouched = left_alone (compare_of m n w) v;
}

-- ---- what it needs

-- what is lent for the address, by whether it is too short
module _ (cs : List Change) (o o' : List ℕ) {r : ℕ} {lent left : List ℕ} where
  past_first : (b : Bool) → Hands (byte_count (needed_with (Told cs) (refuse b refusal.OutputTooShort (Made (first_changed cs))))) r lent left
      → o' ≡ leaves (refuse b refusal.OutputTooShort (Made (first_changed cs))) o → r ≡ 0 → drop 16 o' ≡ drop 16 o
  unfolding refuse byte_count IsDone
  past_first true h e z = absurd (h.zero_is_done z)
  past_first false h e z =
      let f = first_changed cs in
      ap (drop 16) e ∙ ap (λ (k : ℕ). drop k (f ++ drop (length f) o)) (sym (first-length cs)) ∙ drop-append_seam f (drop (length f) o) ∙ ap (λ (k : ℕ). drop k o) (first-length cs)

  left-first : (b : Bool) → Hands (byte_count (needed_with (Told cs) (refuse b refusal.OutputTooShort (Made (first_changed cs))))) r lent left
      → o' ≡ leaves (refuse b refusal.OutputTooShort (Made (first_changed cs))) o → (r ≡ 0 → ⊥) → o' ≡ o
  unfolding refuse byte_count handed
  left-first true h e n = e
  left-first false h e n = let k = h.numbers in let z : r ≡ 0 = cc in absurd (n z)

past_finds : (c : Comparison) (o o' : List ℕ) {r : ℕ} {lent left : List ℕ} → Finds c o o' r lent left → r ≡ 0 → drop 16 o' ≡ drop 16 o
unfolding byte_count IsDone
past_finds (Told cs) o o' w z = past_first cs o o' (ltb (length o) (length (first_changed cs))) w.hands w.output z
past_finds (Refuses k) o o' w z = absurd (w.hands.zero_is_done z)

left_finds : (c : Comparison) (o o' : List ℕ) {r : ℕ} {lent left : List ℕ} → Finds c o o' r lent left → (r ≡ 0 → ⊥) → o' ≡ o
left_finds (Told cs) o o' w n = left-first cs o o' (ltb (length o) (length (first_changed cs))) w.hands w.output n
left_finds (Refuses k) o o' w n = w.output

pub found : (m n : List ℕ) (w : ℕ) (o o' : List ℕ) {r bytes bytes' : ℕ} → Finds (comparison m n w) o o' r (bytes ∷ []) (bytes' ∷ []) → FindsFirst m n w o o' r bytes bytes'
unfolding byte_count refuse
found m n w o o' {r} {bytes} {bytes'} v = record {
  numbers = numbered OfTwo _
      (find-numbers OfTwo m n w (map-numbers OfTwo of_old m w (inl number_1))
      (map-numbers (λ k. OfTwo (100 + k)) of_new n w (inr (inr (inl (omega arith, omega arith))))) (length o) (inr (inl refl))) v.hands;
  old_refused = λ f e. refused_as _ (ap (λ (x : Comparison). byte_count (needed_with x (within (length o) (first_made x)))) (old_refused m n w f e)) v.hands;
  new_refused = λ c d f e g. refused_as _ (ap (λ (x : Comparison). byte_count (needed_with x (within (length o) (first_made x)))) (new_refused m n w c d f e g)) v.hands;
  answered = λ c d c' d' e f l.
      done_as _ (ap (λ (x : Comparison). byte_count (needed_with x (within (length o) (first_made x)))) (told m n w c d c' d' e f)
      ∙ ap (λ (b : Bool). byte_count (needed_with (Told (changes_of m n w)) (refuse b refusal.OutputTooShort (Made (first_changed (changes_of m n w)))))) (le-ltb (length o) (length (first_changed (changes_of m n w))) (omega (arith, first-length (changes_of m n w), l)))) v.hands;
  no_room = λ c d c' d' e f l.
      refused_as _ (ap (λ (x : Comparison). byte_count (needed_with x (within (length o) (first_made x)))) (told m n w c d c' d' e f)
      ∙ ap (λ (b : Bool). byte_count (needed_with (Told (changes_of m n w)) (refuse b refusal.OutputTooShort (Made (first_changed (changes_of m n w)))))) (lt-ltb (length o) (length (first_changed (changes_of m n w))) (omega (arith, first-length (changes_of m n w), l)))) v.hands;
  past = past_finds (comparison m n w) o o' v;
  untouched = λ z. (left_finds (comparison m n w) o o' v z, let e = kept _ v.hands z in cc);
}

-- ---- two maps compared, and an address walked through both

-- a comparison that was not refused has accepted maps
both_accepted : (m n : List ℕ) (w : ℕ) (cs : List Change) → comparison m n w ≡ Told cs
    → (c : ℕ) × (d : ℕ) × (c' : ℕ) × (d' : ℕ) × (check_of m w ≡ Accepted c d) × (check_of n w ≡ Accepted c' d')
unfolding comparison
both_accepted m n w cs e = go (check_of m w) refl (check_of n w) refl
  where
    go : (v : Verdict) → check_of m w ≡ v → (u : Verdict) → check_of n w ≡ u
        → (c : ℕ) × (d : ℕ) × (c' : ℕ) × (d' : ℕ) × (check_of m w ≡ Accepted c d) × (check_of n w ≡ Accepted c' d')
    go (Err k) h u g = let x = rw h at e in absurd cc
    go (Ok got) h (Err k) g = let x = rw (h, g) at e in absurd cc
    go (Ok got) h (Ok got') g = (got.count, got.depth, got'.count, got'.depth, h, g)

-- what was asked for and answered by 0 was told, and its length handed out
told-length : (x : Comparison) (o o' : List ℕ) {r bytes : ℕ} {lent : List ℕ} → Finds x o o' r lent (bytes ∷ []) → r ≡ 0
    → (cs : List Change) × (x ≡ Told cs) × (bytes ≡ length (change_records_of cs))
unfolding byte_count IsDone handed refuse
told-length (Told cs) o o' {r} {bytes} {lent} w z = (cs, refl, go (ltb (length o) (length (first_changed cs))) w.hands)
  where
    go : (b : Bool) → Hands (byte_count (needed_with (Told cs) (refuse b refusal.OutputTooShort (Made (first_changed cs))))) r lent (bytes ∷ []) → bytes ≡ length (change_records_of cs)
    go true h = absurd (h.zero_is_done z)
    go false h = let k = h.numbers in cc
told-length (Refuses k) o o' w z = absurd (w.hands.zero_is_done z)

told_same : {a b : List Change} → Told a ≡ Told b → a ≡ b
told_same e = cc

none_told : (cs : List Change) → length (change_records_of cs) ≡ 0 → cs ≡ []
none_told [] e = refl
none_told (c ∷ cs) e = absurd (omega (arith, e, length-changes (c ∷ cs)))

pub agreed : (m n a : List ℕ) (w : ℕ) (o o' : List ℕ) {q r r' bytes kind x count bits kind' x' count' bits' : ℕ} {lent lent₁ lent₂ left₁ left₂ : List ℕ}
    → Finds (comparison m n w) o o' q lent (bytes ∷ []) → Compares m n w → q ≡ 0
    → Hands (walk_made (interpret_over m a w)) r lent₁ left₁ → Ends m a w r kind x count bits → r ≡ 0
    → Hands (walk_made (interpret_over n a w)) r' lent₂ left₂ → Ends n a w r' kind' x' count' bits' → AgreedWalks r' bytes x x'
agreed m n a w o o' f compares z h d y h' d' y' none =
    let t = told-length (comparison m n w) o o' f z in
    let v = both_accepted m n w t.0 t.1 in
    let same : t.0 ≡ changes_of m n w = told_same (sym t.1 ∙ told m n w v.0 v.1 v.2 v.3 v.4 v.5) in
    let nothing = sym same ∙ none_told t.0 (sym t.2 ∙ none) in
    walk-number m a w (d v.0 v.1 v.4 (has-bits m a w h y))
    ∙ (compares v.0 v.1 v.2 v.3 v.4 v.5).silent nothing a
    ∙ sym (walk-number n a w (d' v.2 v.3 v.5 (has-bits n a w h' y')))
