-- What the checks' counts tell of two maps, what the calls make of it, and what a comparison promises, over every width.
-- Assumes nothing.
use Prim.Native.Nat.{ℕ, ◌*◌, ◌^◌, ◌≤◌, ◌<◌}
use mathlib.Core.Bool.{Bool, true, false}
use mathlib.Core.Path.{◌≡◌, refl, sym, ap, subst, ◌∙◌}
use mathlib.Core.List.{List, [], ◌∷◌, ◌++◌}
use native.Mathlib.Omega.{arith}
use lib.Dec.{eqb}
use lib.ListN.{length}
use lib.Seq.{sets}
use borrow.Author.Tests.{lt-ltb, le-ltb, eqb-true, eqb-false}
use Rattle.byte_numbers.specs.Numbers.{big8}
use Rattle.byte_numbers.proofs.Buffers.{sets-append_at}
use Rattle.asmap_program.specs.Check.{unpacked}
use Rattle.asmap_program.specs.models.Pieces.{count_pieces}
use Rattle.asmap_codes.specs.Instruction.{map_of}
use Rattle.asmap_check.specs.Check.{check_of}
use Rattle.asmap_check.specs.models.Counted.{counted_as, counted_of, Few}
use Rattle.asmap_check_run.specs.models.State.{most}
use Rattle.asmap_records.specs.Output.{Making, Made, No, refuse, within, leaves, Hands}
use Rattle.asmap_records.proofs.RecordLaws.{sets_front}
use Rattle.asmap_records.proofs.OutputLaws.{hands_no}
use Rattle.prefix_records.specs.Tiling.{number_of}
use Rattle.prefix_changes.specs.Change.{Change, changes, among, Tells}
use Rattle.prefix_changes.specs.Record.{first_changed}
use Rattle.prefix_changes.proofs.ChangeLaws.{changes_rise, changes_same, changes_back}
use Rattle.prefix_changes.proofs.TellLaws.{tells}
use Rattle.prefix_changes.proofs.WiderLaws.{changes_wider}
use Rattle.prefix_changes.proofs.RecordLaws.{length-changes}
use Rattle.asmap_listing.specs.Listing.{listing}
use Rattle.asmap_program.specs.Map.{address_bit}
use Rattle.asmap_list.proofs.CallLaws.{counts, covered}
use Rattle.asmap_changes.specs.Changes.{changes_of}
use Rattle.asmap_compare.specs.Compare.{Comparison, Told, Refuses, compared_as, comparison, records_made, needed_with, Finds}
use Rattle.asmap_compare.specs.Promise.{ends_at, Compares}
use Rattle.asmap_changes.specs.models.Side.{Ready}
use Rattle.asmap_program.specs.Verdict.{Accepted, Verdict}
use Rattle.asmap_check.proofs.Reasons.{Judged, reason_small, map-judged}
use Rattle.refusals.specs.Numbers.{fault_number}
use Rattle.refusals.specs.declared.Fault.{Fault}
use Rattle.refusals.specs.declared.Refusal.{Refusal}
use Rattle.refusals.specs.declared.Refusal.TheVariants as refusal
use Rattle.std.specs.Prelude.{Result, Ok, Err, MatchResult, IsErrAnd}
use Rattle.std.proofs.lemmas.Result.{err_from_is_err_and}

-- ---- what a count tells

module _ (m : List ℕ) (w : ℕ) (narrow : w ≤ 128) where
  pub ready : (n : ℕ) → Ok n ≡ counted_of m w → n ≤ most → Ready m × (length (listing (map_of m)) ≡ n)
  ready n e h =
      let c = counts m w narrow n e in
      (record { within = c.within; scans = c.listed.scans; tiles = c.listed.tiles; few = omega (arith, c.listed.count, h) }, c.listed.count)

  pub accepts : (n : ℕ) → Ok n ≡ counted_of m w → (c : ℕ) × (d : ℕ) × (check_of m w ≡ Accepted c d)
  accepts n e = go (check_of m w) refl e
    where
      go : (v : Verdict) → check_of m w ≡ v → Ok n ≡ counted_as (count_pieces (unpacked (map_of m) w)) v → (c : ℕ) × (d : ℕ) × (check_of m w ≡ Accepted c d)
      go (Ok got) h q = (got.count, got.depth, h)
      go (Err r) h q = let z : ◌≡◌ {A = ℕ} 0 1 = cc in absurd (omega arith)

  pub refuses : (r : Fault) → Err r ≡ counted_of m w → check_of m w ≡ Err r
  refuses r e = go (check_of m w) refl e
    where
      go : (v : Verdict) → check_of m w ≡ v → Err r ≡ counted_as (count_pieces (unpacked (map_of m) w)) v → check_of m w ≡ Err r
      go (Ok got) h q = let z : ◌≡◌ {A = ℕ} 0 1 = cc in absurd (omega arith)
      go (Err n) h q = let z : r ≡ n = cc in h ∙ ap Err (sym z)

  -- the number of what is wrong with a map has room for 100 more
  pub small-reason : (r : Fault) → check_of m w ≡ Err r → fault_number r ≤ 19
  small-reason r e = subst (Judged (λ n. n ≤ 19)) e (map-judged (λ n. n ≤ 19) reason_small m w (omega arith))

-- a count is small, however its call was read
pub few_of : (s : Result ℕ Fault) (n : ℕ) → Few s → s ≡ Ok n → n ≤ most
few_of s n h e = subst Few e h

-- ---- what is wrong with the new map, told of as its

abbrev NewMapped : Result ℕ Fault → Result ℕ Refusal → Type 0
NewMapped s r = MatchResult s (λ x. r ≡ Ok x) (λ e. IsErrAnd r (λ g. g ≡ refusal.NewMap e))

pub mapped-ok : (s : Result ℕ Fault) (r : Result ℕ Refusal) → NewMapped s r → (n : ℕ) → r ≡ Ok n → s ≡ Ok n
mapped-ok (Ok m) r h n e = cc
mapped-ok (Err f) r h n e = let p = (err_from_is_err_and r h).1 in absurd (cc)

pub mapped-err : (s : Result ℕ Fault) (r : Result ℕ Refusal) → NewMapped s r → (g : Refusal) → r ≡ Err g → (f : Fault) × (s ≡ Err f) × (g ≡ refusal.NewMap f)
mapped-err (Ok m) r h g e = absurd (cc)
mapped-err (Err f) r h g e = let p = err_from_is_err_and r h in let q = p.1 in let z : g ≡ p.0 = cc in (f, refl, z ∙ p.2)

-- ---- what the calls make of it

module _ (old new : List ℕ) (w : ℕ) where
  pub told : (c d c' d' : ℕ) → check_of old w ≡ Accepted c d → check_of new w ≡ Accepted c' d' → comparison old new w ≡ Told (changes_of old new w)
  unfolding comparison
  told c d c' d' e f =
      ap (λ (v : Verdict). compared_as (changes_of old new w) v (check_of new w)) e ∙ ap (compared_as (changes_of old new w) (Accepted c d)) f

  pub old_refused : (r : Fault) → check_of old w ≡ Err r → comparison old new w ≡ Refuses (refusal.Map r)
  unfolding comparison
  old_refused r e = ap (λ (v : Verdict). compared_as (changes_of old new w) v (check_of new w)) e

  pub new_refused : (c d : ℕ) (r : Fault) → check_of old w ≡ Accepted c d → check_of new w ≡ Err r → comparison old new w ≡ Refuses (refusal.NewMap r)
  unfolding comparison
  new_refused c d r e f =
      ap (λ (v : Verdict). compared_as (changes_of old new w) v (check_of new w)) e ∙ ap (compared_as (changes_of old new w) (Accepted c d)) f

-- the loop compares pieces among addresses of 128 bits, and finds the changes over w bits
pub told_wide : (old new : List ℕ) (w : ℕ) → w ≤ 128 → (c d c' d' : ℕ) → check_of old w ≡ Accepted c d → check_of new w ≡ Accepted c' d'
    → comparison old new w ≡ Told (changes_of old new 128)
told_wide old new w narrow c d c' d' e f =
    told old new w c d c' d' e f
    ∙ ap Told (changes_wider w 128 narrow 0 0 (2 ^ w) (2 ^ w) (listing (map_of old)) (listing (map_of new)) (covered old w c d e).tiles (covered new w c' d' f).tiles)

pub hands_refused : (x : Comparison) (o : List ℕ) (n : Refusal) → x ≡ Refuses n → Hands (records_made x) o o (Err n)
hands_refused x o n e = hands_no (records_made x) o n (ap records_made e)

pub hands_same : (x y : Comparison) (o o' : List ℕ) (r : Result ℕ Refusal) → x ≡ y → Hands (records_made y) o o' r → Hands (records_made x) o o' r
hands_same x y o o' r e h = subst (λ (y : Comparison). Hands (records_made y) o o' r) (sym e) h

pub finds_refused : (x : Comparison) (o : List ℕ) (n : Refusal) → x ≡ Refuses n → Finds x o o (Err n)
finds_refused x o n e = subst (λ (y : Comparison). Finds y o o (Err n)) (sym e) record { answer = refl; output = refl }

pub finds_same : (x y : Comparison) (o o' : List ℕ) (r : Result ℕ Refusal) → x ≡ y → Finds y o o' r → Finds x o o' r
finds_same x y o o' r e h = subst (λ (y : Comparison). Finds y o o' r) (sym e) h

-- ---- the first address that differs

pub first-length : (cs : List Change) → length (first_changed cs) ≡ 16
first-length [] = refl
first-length (c ∷ cs) = refl

finds : (cs : List Change) (o : List ℕ) (r : Making) → within (length o) (Made (first_changed cs)) ≡ r → Finds (Told cs) o (leaves r o) (needed_with (Told cs) r)
finds cs o r q = record { answer = sym (ap (needed_with (Told cs)) q); output = sym (ap (λ (x : Making). leaves x o) q) }

pub finds_short : (cs : List Change) (o : List ℕ) → length o < 16 → Finds (Told cs) o o (Err refusal.OutputTooShort)
unfolding refuse
finds_short cs o h =
    finds cs o (No refusal.OutputTooShort) (ap (λ (b : Bool). refuse b refusal.OutputTooShort (Made (first_changed cs))) (lt-ltb (length o) (length (first_changed cs)) (omega (arith, first-length cs))))

pub finds-first : (cs : List Change) (o o₁ o₂ o₃ : List ℕ) (h l k : ℕ) → 16 ≤ length o → big8 h ++ big8 l ≡ first_changed cs → o₁ ≡ o → o₂ ≡ sets o₁ 0 (big8 h) → o₃ ≡ sets o₂ 8 (big8 l)
    → k ≡ length cs → Finds (Told cs) o o₃ (Ok (28 * k))
unfolding refuse
finds-first cs o o₁ o₂ o₃ h l k long e p q r n =
    let v = finds cs o (Made (first_changed cs)) (ap (λ (b : Bool). refuse b refusal.OutputTooShort (Made (first_changed cs))) (le-ltb (length o) (length (first_changed cs)) (omega (arith, first-length cs)))) in
    let z : o₃ ≡ sets o 0 (first_changed cs) =
    r ∙ ap (λ (x : List ℕ). sets x 8 (big8 l)) (q ∙ ap (λ (x : List ℕ). sets x 0 (big8 h)) p) ∙ sym (sets-append_at o 0 8 (big8 h) (big8 l) refl) ∙ ap (sets o 0) e in
    record {
      answer = ap Ok (ap (λ (x : ℕ). 28 * x) n ∙ sym (length-changes cs)) ∙ v.answer;
      output = z ∙ sets_front o (first_changed cs) (omega (arith, first-length cs)) ∙ v.output;
    }

-- ---- what is promised

never : (c : Change) → [] ≡ c ∷ [] → ⊥
never c e = let z : ◌≡◌ {A = ℕ} 0 1 = cc in absurd (omega arith)

no_change : (w x n k : ℕ) (cs : List Change) → Tells w x n k cs → cs ≡ [] → n ≡ k
unfolding among
no_change w x n k cs t e = go (eqb n k) refl
  where
    go : (b : Bool) → eqb n k ≡ b → n ≡ k
    go true f = eqb-true n k f
    go false f = absurd (never _ (sym (ap (among w x) e) ∙ (t.other (eqb-false n k f)).only))

-- every two accepted maps are compared whole
pub compared : (old new : List ℕ) (w : ℕ) → Compares old new w
compared old new w c d c' d' e f =
    let o = covered old w c d e in
    let n = covered new w c' d' f in
    let ps = listing (map_of old) in
    let qs = listing (map_of new) in
    let t : (a : List ℕ) → Tells w (number_of (address_bit a) w) (ends_at old a w) (ends_at new a w) (changes_of old new w) =
    λ a. tells w (number_of (address_bit a) w) (ends_at old a w) (ends_at new a w) 0 0 (2 ^ w) (2 ^ w) ps qs o.tiles n.tiles (o.walks a) (n.walks a) in
    record {
      rises = changes_rise w 0 0 (2 ^ w) (2 ^ w) ps qs o.tiles n.tiles;
      told = t;
      silent = λ h a. no_change w (number_of (address_bit a) w) (ends_at old a w) (ends_at new a w) (changes_of old new w) (t a) h;
      same = λ h. ap (λ (m : List ℕ). changes w ps (listing (map_of m))) (sym h) ∙ changes_same w 0 (2 ^ w) ps o.tiles;
      turned = changes_back w 0 0 (2 ^ w) (2 ^ w) ps qs o.tiles n.tiles;
    }

-- ---- an output that was left as it was

pub hands_left : (made : Making) (o o₁ o' : List ℕ) (r : Result ℕ Refusal) → o₁ ≡ o → Hands made o₁ o' r → Hands made o o' r
hands_left made o o₁ o' r e h = subst (λ (x : List ℕ). Hands made x o' r) e h
