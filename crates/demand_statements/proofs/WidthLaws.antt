-- What a call at a width says, from the contract of the exported call: at 32 and at 128 what the call over so many bits says; at any other number 18,
-- with all left as it was.
-- Assumes nothing.
use Prim.Native.Nat.{ℕ}
use mathlib.Core.Bool.{Bool, true, false}
use mathlib.Core.Path.{◌≡◌, ◌∙◌, refl, ap, subst}
use mathlib.Core.List.{List}
use native.Mathlib.Omega.{arith}
use lib.ListN.{length}
use Rattle.asmap_program.specs.Widths.{is_width, at_width}
use Rattle.asmap_program.proofs.Widths.{at_width_lem, no_width, a_width, neither_width}
use Rattle.asmap_records.specs.Output.{Making, within, leaves, answer_of}
use Rattle.asmap_records.specs.Output as output
use Rattle.asmap_compare.specs.Compare.{Comparison, Refuses, first_made, needed_with}
use Rattle.answer_outcome.specs.Outcome.{Outcome, No, Hands}
use Rattle.answer_bytes.specs.Bytes.{byte_count, Writes, Finds}
use Rattle.demand_statements.specs.AnyInput.{AtWidth}
use Rattle.demand_statements.proofs.AnswerLaws.{kept, refused_as}
use Rattle.refusals.specs.declared.Refusal.{Refusal}
use Rattle.refusals.specs.declared.Refusal.TheVariants as refusal

-- what is known of a call at a width, by whether it is one
pub record ByWidth (w r : ℕ) (Over Left : Type 0) : Type 0 where
  pub over : is_width w ≡ true → Over
  pub other : is_width w ≡ false → (r ≡ 18) × Left

-- what the call has over so many bits it has at the width
pub said_at : (w r : ℕ) {Over Has Left Lent : Type 0} → (is_width w ≡ true → Over → Has) → (Left → Lent) → ByWidth w r Over Left → AtWidth w r Has Lent
said_at w r f g b = record {
  no_width = λ h k. (b.other (neither_width w h k)).0;
  untouched = λ h k. g (b.other (neither_width w h k)).1;
  a_width = λ h. let t = a_width w h in f t (b.over t);
}

-- only at a width is the answer 0
pub answered_at : (w r : ℕ) {Over Left : Type 0} → ByWidth w r Over Left → r ≡ 0 → is_width w ≡ true
answered_at w r b z = go (is_width w) refl
  where
    go : (t : Bool) → is_width w ≡ t → t ≡ true
    go true e = refl
    go false e = let k = (b.other e).0 in absurd (omega arith)

-- an answer in numbers. out: the numbers that are handed out of what the crate below answers
pub hands_by : {A : Type 0} (out : A → Outcome) (refused : Refusal → A) (x : A) (w : ℕ) {r : ℕ} {lent left : List ℕ} → out (refused refusal.Width) ≡ No 18
    → Hands (out (at_width w refused x)) r lent left → ByWidth w r (Hands (out x) r lent left) (left ≡ lent)
hands_by {A} out refused x w {r} {lent} {left} e h = record {
  over = λ t. subst (λ (y : A). Hands (out y) r lent left) (at_width_lem w refused x t) h;
  other = λ t.
      let z = refused_as (out (at_width w refused x)) (ap out (no_width w refused x t) ∙ e) h in
      (z, kept (out (at_width w refused x)) h (λ y. omega arith));
}

-- and bytes written. make: the bytes that are made of it
pub writes_by : {A : Type 0} (make : A → Making) (refused : Refusal → A) (x : A) (w : ℕ) {o o' : List ℕ} {r : ℕ} {lent left : List ℕ} → make (refused refusal.Width) ≡ output.No refusal.Width
    → Writes (make (at_width w refused x)) o o' r lent left → ByWidth w r (Writes (make x) o o' r lent left) ((o' ≡ o) × (left ≡ lent))
unfolding byte_count
writes_by {A} make refused x w {o} {o'} {r} {lent} {left} e h = record {
  over = λ t. subst (λ (y : A). Writes (make y) o o' r lent left) (at_width_lem w refused x t) h;
  other = λ t.
      let n = ap make (no_width w refused x t) ∙ e in
      let b = (hands_by (λ (y : A). byte_count (answer_of (within (length o) (make y)))) refused x w (ap (λ (m : Making). byte_count (answer_of (within (length o) m))) e) h.hands).other t in
      (b.0, (h.output ∙ ap (λ (m : Making). leaves (within (length o) m) o) n, b.1));
}

-- what a comparison needs
pub finds_by : (x : Comparison) (w : ℕ) {o o' : List ℕ} {r : ℕ} {lent left : List ℕ} → Finds (at_width w Refuses x) o o' r lent left
    → ByWidth w r (Finds x o o' r lent left) ((o' ≡ o) × (left ≡ lent))
unfolding byte_count
finds_by x w {o} {o'} {r} {lent} {left} h = record {
  over = λ t. subst (λ (y : Comparison). Finds y o o' r lent left) (at_width_lem w Refuses x t) h;
  other = λ t.
      let b = (hands_by (λ (y : Comparison). byte_count (needed_with y (within (length o) (first_made y)))) Refuses x w refl h.hands).other t in
      (b.0, (h.output ∙ ap (λ (y : Comparison). leaves (within (length o) (first_made y)) o) (no_width w Refuses x t), b.1));
}
