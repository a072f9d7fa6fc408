-- What a caller concludes of draws and loads, from what the calls promise.
-- Assumes nothing.
use Prim.Native.Nat.{ℕ, ◌≤◌, ◌<◌}
use mathlib.Core.Path.{◌≡◌, ◌∙◌, refl, sym, ap}
use mathlib.Core.Logic.{◌⊎◌, inl, inr, ◌≢◌}
use mathlib.Core.List.{List, [], ◌∷◌}
use native.Mathlib.Decide.{ℕ_discrete}
use native.Mathlib.Omega.{arith}
use lib.ListN.{length, take}
use Rattle.asmap_check.specs.Check.{check_of}
use Rattle.asmap_records.specs.Output.{Making, Made, No, within, answer_of}
use Rattle.load_draws.specs.Draw.{next, draw, drawn_after}
use Rattle.load_draws.proofs.DrawLaws.{drawn-zero, drawn-some}
use Rattle.asmap_load.specs.Load.{load_of}
use Rattle.asmap_load.specs.Promise.{Passes, whole_address}
use Rattle.asmap_load.proofs.LoadLaws.{load_seed, load_many}
use Rattle.asmap_load.proofs.PassLaws.{made_short}
use Rattle.answer_outcome.specs.Outcome.{Outcome, Hands}
use Rattle.answer_draws.specs.Draws.{number_drawn}
use Rattle.answer_maps.specs.Maps.{map_checked}
use Rattle.answer_bytes.specs.Bytes.{byte_count, Writes}
use Rattle.answers.proofs.NeverZeroLoads.{load-numbers, number_drawn_lem}
use Rattle.demand_statements.specs.Loaded.{Draws, DrawsOn, Loads, Loaded, LoadChecked}
use Rattle.demand_statements.proofs.AnswerLaws.{kept, numbered, refused_as, done_as, handed_out}
use Rattle.demand_statements.proofs.TripLaws.{wrote, has_room, no_room, left_alone}
use Rattle.std.specs.Prelude.{Result, Ok}
use Rattle.refusals.specs.declared.Refusal.{Refusal}
use Rattle.refusals.specs.declared.Refusal.TheVariants as refusal
use Rattle.refusals.specs.Numbers.{of_map}

-- ---- draws

same_number : {a b : ℕ} → ◌≡◌ {A = Result ℕ Refusal} (Ok a) (Ok b) → b ≡ a
same_number e = cc

pub draws : (s : ℕ) {r d d' : ℕ} → Hands (number_drawn (drawn_after s)) r (d ∷ []) (d' ∷ []) → (r ≡ 0 → d' ≢ 0) → Draws s r d d'
unfolding number_drawn
draws s {r} {d} {d'} h some = record {
  zero = λ z. refused_as _ (ap number_drawn (drawn-zero s z)) h;
  answered = answered;
  exact = λ z. exact z (ℕ_discrete s 0);
  some = some;
  untouched = λ z. let e = kept (number_drawn (drawn_after s)) h z in cc;
}
  where
    answered : s ≢ 0 → r ≡ 0
    answered z = done_as _ (ap number_drawn (drawn-some s z)) h

    exact : r ≡ 0 → Dec (s ≡ 0) → d' ≡ next s
    exact z (yes q) = let k : r ≡ 20 = refused_as _ (ap number_drawn (drawn-zero s q)) h in absurd (omega arith)
    exact z (no q) = same_number (sym (drawn-some s q) ∙ number_drawn_lem (drawn_after s) h z)

-- from a number that was drawn
pub draws_on : (seed first : ℕ) {q r d e d' : ℕ} → Draws seed q d first → q ≡ 0 → Draws first r e d' → DrawsOn seed r d'
unfolding draw
draws_on seed first {q} h z k =
    let a = k.answered (h.some z) in
    record { zero = λ s. let b : q ≡ 20 = h.zero s in absurd (omega arith); never_refused = λ s. a; exact = λ y. k.exact y ∙ ap next (h.exact z) }

-- or refused at the first
pub not_drawn : (seed : ℕ) {r d first d' : ℕ} → Draws seed r d first → r ≢ 0 → DrawsOn seed r d'
not_drawn seed h n = record { zero = h.zero; never_refused = h.answered; exact = λ z. absurd (n z) }

-- ---- a load

abbrev LoadNumber : ℕ → Type 0
LoadNumber n = (n ≡ 14) ⊎ (n ≡ 20)

many_or_none : (seed pairs : ℕ) → 128 < pairs → load_of seed pairs ≡ No refusal.Load
many_or_none seed pairs h = go (ℕ_discrete seed 0)
  where
    go : Dec (seed ≡ 0) → load_of seed pairs ≡ No refusal.Load
    go (yes z) = load_seed seed pairs z
    go (no z) = load_many seed pairs z h

pub loads : (seed pairs : ℕ) (o o' : List ℕ) {r w w' : ℕ} → Writes (load_of seed pairs) o o' r (w ∷ []) (w' ∷ []) → Loads seed pairs o o' r w w'
unfolding byte_count
loads seed pairs o o' h = record {
  numbers = numbered LoadNumber _ (load-numbers LoadNumber (length o) seed pairs (inr refl) (inl refl)) h.hands;
  no_seed = λ z. refused_as _ (ap by (load_seed seed pairs z)) h.hands;
  too_many = λ k. refused_as _ (ap by (many_or_none seed pairs k)) h.hands;
  answered = λ z k l. let m = made_short seed pairs z k in has_room (load_of seed pairs) m.0 o o' m.1 (omega (arith, m.2)) h;
  no_room = λ m e l. no_room (load_of seed pairs) m o o' e l h;
  past = λ z. (wrote (load_of seed pairs) h z).past;
  untouched = left_alone (load_of seed pairs) h;
}
  where
    by : Making → Outcome
    by x = byte_count (answer_of (within (length o) x))

pub loaded : (seed pairs : ℕ) (o o' : List ℕ) {r w w' : ℕ} → Writes (load_of seed pairs) o o' r (w ∷ []) (w' ∷ [])
    → (r ≡ 0 → Passes seed pairs (take w' o')) → r ≡ 0 → Loaded seed pairs (take w' o')
loaded seed pairs o o' {w'} h p z =
    let t = wrote (load_of seed pairs) h z in
    let q = p z in
    record {
      exact = t.these ∙ ap Made (sym t.there);
      accepted = q.accepted;
      walked = λ w k a f.
          let e = q.whole_walk w k a f in
          record { kind = ap (λ x. x.kind) e; number = ap (λ x. x.number) e; count = ap (λ x. x.count) e; bits = ap (λ x. x.bits) e };
      some_address = (whole_address seed pairs, q.sixteen, q.bytes, q.begins);
    }

-- what was written has no more pairs than may be
few : (seed pairs : ℕ) {o o' : List ℕ} {r w w' : ℕ} → Loads seed pairs o o' r w w' → r ≡ 0 → pairs ≤ 128
few seed pairs h z = let f = h.too_many in grind arith

-- made, and then checked
pub load_checked_lem : (seed pairs : ℕ) (o m : List ℕ) {r c d : ℕ} {lent : List ℕ} → {o' : List ℕ} {q w w' : ℕ} → Loads seed pairs o o' q w w' → q ≡ 0
    → Loaded seed pairs m → Hands (map_checked (of_map (check_of m 128))) r lent (c ∷ d ∷ []) → LoadChecked seed pairs o r c d
load_checked_lem seed pairs o m l z t h =
    let a = t.accepted 128 (few seed pairs l z) in
    let v = handed_out (check_of m 128) a h in
    let e = v.1 in
    record { answered = λ _ _ _. v.0; counted = λ _. (cc, cc) }

-- or not made
pub not_loaded : (seed pairs : ℕ) (o : List ℕ) {o' : List ℕ} {r w w' c d : ℕ} → Loads seed pairs o o' r w w' → r ≢ 0 → LoadChecked seed pairs o r c d
not_loaded seed pairs o l n = record { answered = λ s k h. l.answered s k (omega arith); counted = λ z. absurd (n z) }
