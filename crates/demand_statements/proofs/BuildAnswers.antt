-- What a caller concludes of a map built from prefixes, from what the call promises.
-- Assumes nothing.
use Prim.Native.Nat.{ℕ, zero, suc, ◌+◌, ◌-◌, ◌*◌, ◌/◌, ◌%◌, ◌^◌, ◌≤◌, ◌<◌}
use mathlib.Core.Bool.{Bool, true, false, ◌&&◌}
use mathlib.Core.Path.{◌≡◌, ◌∙◌, refl, sym, ap, subst}
use mathlib.Core.Logic.{◌⊎◌, inl, inr}
use mathlib.Core.List.{List, [], ◌∷◌}
use native.Mathlib.Numerals.{add-one}
use native.Mathlib.Omega.{arith}
use lib.Dec.{ltb}
use lib.Pow as pow
use lib.ListN.{length, take, get_or}
use borrow.Author.Tests.{ltb-false}
use Rattle.std.proofs.lemmas.Bool.Decides.{nat_tests}
use Rattle.asmap_program.specs.Map.{address_bit}
use Rattle.asmap_program.specs.Widths.{is_width, at_width}
use Rattle.asmap_program.proofs.Widths.{at_width_lem, no_width, a_width, neither_width, narrow}
use Rattle.byte_numbers.proofs.NumberLaws.{AllBytes}
use Rattle.prefix_records.specs.Tiling.{past_of, holds, number_of}
use Rattle.prefix_records.proofs.PlaceLaws.{held_from, held_if}
use Rattle.prefix_lists.specs.List.{big, count_of, address_at, length_at, piece_at, number_at, earliest, fits, is_number, judge}
use Rattle.prefix_lists.specs.models.Listed.{Rising}
use Rattle.prefix_lists.proofs.BigLaws.{halves, big-eight}
use Rattle.prefix_lists.proofs.FitLaws.{Fitting, fitting, clean-first, clean_past}
use Rattle.prefix_lists.proofs.JudgeLaws.{number_read, judge_uneven}
use Rattle.prefix_lists.proofs.ListLaws.{Passes, Judgement, all_passed, judged_rising}
use Rattle.prefix_lists.proofs.ListLaws as lists
use Rattle.prefix_lists.proofs.NumberLaws.{number_held, number_none}
use Rattle.asmap_listing.proofs.AddressLaws.{number_wider}
use Rattle.asmap_bit_writer.specs.Bytes.{bytes_of}
use Rattle.asmap_bit_writer.proofs.ByteLaws.{length-bytes_of}
use Rattle.asmap_records.specs.Output.{Making, Made, No, refuse, within, answer_of}
use Rattle.asmap_build.specs.Build.{number_in, tree_bits, build_as, build_of, build_at}
use Rattle.asmap_build.specs.Promise as promise
use Rattle.asmap_build.proofs.WidthLaws.{number_scaled}
use Rattle.answer_outcome.specs.Outcome.{Outcome}
use Rattle.answer_bytes.specs.Bytes.{byte_count, Writes}
use Rattle.answers.proofs.NeverZeroBuilds.{build-numbers}
use Rattle.demand_statements.specs.Listed.{eight, address, first, past}
use Rattle.demand_statements.specs.Built.{InRange, Right, Builds, Built}
use Rattle.demand_statements.proofs.AnswerLaws.{numbered, refused_as}
use Rattle.demand_statements.proofs.TripLaws.{wrote, has_room, no_room, left_alone}
use Rattle.demand_statements.proofs.ListBytes.{address_number}
use Rattle.prefix_lists.specs.Judged.{Listed}
use Rattle.refusals.specs.declared.Refusal.{Refusal}
use Rattle.std.specs.Prelude.{Result, Err}
use Rattle.refusals.specs.declared.Fault.TheVariants as fault
use Rattle.refusals.specs.declared.Refusal.TheVariants as refusal

-- ---- the fields of a record

eight_is : (l : List ℕ) (k : ℕ) → eight l k ≡ big 8 l k
eight_is l k = omega (arith, big-eight l k)

first_is : (l : List ℕ) (j : ℕ) → first l j ≡ address_at l j
first_is l j = halves l (24 * j) (eight_is l (24 * j)) (eight_is l (24 * j + 8))

past_is : (l : List ℕ) (j : ℕ) → address_at l j % 2 ^ (128 - length_at l j) ≡ 0 → past l j ≡ past_of 128 (piece_at l j)
past_is l j z = ap (λ (x : ℕ). x + 2 ^ (128 - length_at l j)) (first_is l j) ∙ sym (clean_past l j z)

-- ---- a right list is one that is not refused

in_range : (n : ℕ) → is_number n ≡ true → InRange n
in_range n h = (grind (arith, nat_tests), grind (arith, nat_tests))

is-number : (n : ℕ) → InRange n → is_number n ≡ true
is-number n h = grind (arith, nat_tests)

zeros_of : (w : ℕ) (l : List ℕ) (j : ℕ) → Fitting w l j → (get_or l (24 * j + 17) 0 ≡ 0) × (get_or l (24 * j + 18) 0 ≡ 0) × (get_or l (24 * j + 19) 0 ≡ 0)
zeros_of w l j f = let z = f.zeros in (grind (arith, nat_tests), grind (arith, nat_tests), grind (arith, nat_tests))

right_of : (w : ℕ) (l : List ℕ) (given : ℕ) → Judgement w l given → Right l given w
right_of w l given j = record {
  whole = j.whole;
  short = λ i h. (fit i h).short;
  zeros = λ i h. zeros_of w l i (fit i h);
  clean = λ i h. ap (λ (x : ℕ). x % 2 ^ (128 - length_at l i)) (first_is l i) ∙ (fit i h).clean;
  behind = λ i h.
      let s : suc i ≡ i + 1 = sym (add-one i) in
      subst (λ (x : ℕ). past l i ≤ first l x) s (omega (arith, past_is l i (fit i (omega arith)).clean, first_is l (suc i), (fit (suc i) (omega (arith, h))).behind));
  numbers = λ i h. subst InRange (number_read l i) (in_range (piece_at l i).number (j.each i h).1);
  others = in_range given j.last;
}
  where
    fit : (i : ℕ) → i < length l / 24 → Fitting w l i
    fit i h = fitting w l i (j.each i h).0

module _ (w : ℕ) (l : List ℕ) (given : ℕ) (r : Right l given w) where
  clean_at : (j : ℕ) → j < length l / 24 → address_at l j % 2 ^ (128 - length_at l j) ≡ 0
  clean_at j h = ap (λ (x : ℕ). x % 2 ^ (128 - length_at l j)) (sym (first_is l j)) ∙ r.clean j h

  earliest_at : (j : ℕ) → j < length l / 24 → earliest l j ≤ address_at l j
  earliest_at zero h = omega arith
  earliest_at (suc j) h =
      let s : j + 1 ≡ suc j = add-one j in
      let b = subst (λ (x : ℕ). past l j ≤ first l x) s (r.behind j (omega (arith, h))) in
      omega (arith, b, past_is l j (clean_at j (omega (arith, h))), first_is l (suc j))

  passes_at : (j : ℕ) → j < length l / 24 → Passes w l j
  unfolding fits
  passes_at j h =
      let z = r.zeros j h in
      let a = r.short j h in
      let c = clean_at j h in
      let e = earliest_at j h in (
        grind (arith, nat_tests),
        is-number (piece_at l j).number (subst InRange (sym (number_read l j)) (r.numbers j h)),
      )

  right_listed : judge w l given ≡ Listed
  right_listed = all_passed w l given (record { whole = r.whole; each = passes_at; last = is-number given r.others })

-- ---- the call

abbrev BuildNumber : ℕ → Type 0
BuildNumber n = (n ≡ 1) ⊎ ((n ≡ 14) ⊎ ((n ≡ 18) ⊎ ((n ≡ 21) ⊎ (n ≡ 22))))

-- what is made at a width is what is made over its bits
at_bits : (l : List ℕ) (given w : ℕ) → (w ≡ 32) ⊎ (w ≡ 128) → build_at l given w ≡ build_as (tree_bits l given w) (judge w l given)
unfolding build_of
at_bits l given w h = at_width_lem w No (build_of l given w) (a_width w h)

-- what was made, was made at a width from a list that is not refused
made_from : (l : List ℕ) (given w : ℕ) (bs : List ℕ) → build_at l given w ≡ Made bs → (is_width w ≡ true) × (judge w l given ≡ Listed)
unfolding at_width build_of
made_from l given w bs e = go (is_width w) refl e
  where
    by : (v : Result (Unit {0}) Refusal) → judge w l given ≡ v → build_as (tree_bits l given w) v ≡ Made bs → judge w l given ≡ Listed
    by Listed q h = q
    by (Err n) q h = absurd cc

    go : (b : Bool) → is_width w ≡ b → mathlib.Core.Bool.cond b (build_of l given w) (No refusal.Width) ≡ Made bs → (is_width w ≡ true) × (judge w l given ≡ Listed)
    go true q h = (q, by (judge w l given) refl h)
    go false q h = absurd cc

-- a right list is answered, or its map is over the limit
answers : (l : List ℕ) (given w : ℕ) (o o' : List ℕ) {r x x' : ℕ} → Writes (build_at l given w) o o' r (x ∷ []) (x' ∷ [])
    → (w ≡ 32) ⊎ (w ≡ 128) → judge w l given ≡ Listed → 16777216 ≤ length o → (r ≡ 0) ⊎ (r ≡ 1)
unfolding byte_count refuse
answers l given w o o' {r} h k e room = go (ltb 134217728 (length bits)) refl
  where
    bits : List ℕ
    bits = tree_bits l given w

    made : build_at l given w ≡ refuse (ltb 134217728 (length bits)) (refusal.Map fault.MapTooLong) (Made (bytes_of bits))
    made = at_bits l given w k ∙ ap (build_as bits) e

    go : (b : Bool) → ltb 134217728 (length bits) ≡ b → (r ≡ 0) ⊎ (r ≡ 1)
    go true q = inr (refused_as _ (ap (λ (x : Making). byte_count (answer_of (within (length o) x))) (made ∙ ap (λ (b : Bool). refuse b (refusal.Map fault.MapTooLong) (Made (bytes_of bits))) q)) h.hands)
    go false q =
        inl (has_room (build_at l given w) (bytes_of bits) o o' (made ∙ ap (λ (b : Bool). refuse b (refusal.Map fault.MapTooLong) (Made (bytes_of bits))) q)
        (omega (arith, length-bytes_of bits, ltb-false 134217728 (length bits) q, room)) h)

pub builds : (l : List ℕ) (given w : ℕ) (o o' : List ℕ) {r x x' : ℕ} → Writes (build_at l given w) o o' r (x ∷ []) (x' ∷ []) → Builds l given w o o' r x x'
unfolding byte_count
builds l given w o o' h = record {
  numbers = numbered BuildNumber _ (build-numbers BuildNumber (length o) l given w (inr (inr (inl refl))) (inr (inr (inr (inl refl)))) (inr (inr (inr (inr refl)))) (inl refl) (inr (inl refl))) h.hands;
  no_width = λ a b. refused_as _ (ap by (no_width w No (build_of l given w) (neither_width w a b))) h.hands;
  uneven = λ k n. refused_as _ (ap by (at_bits l given w k ∙ ap (build_as (tree_bits l given w)) (sym (judge_uneven w l given n)))) h.hands;
  right = λ z. let t = wrote (build_at l given w) h z in right_of w l given (lists.judged w l given (made_from l given w t.bytes t.these).1);
  answered = λ k r room. answers l given w o o' h k (right_listed w l given r) room;
  no_room = λ m e k. no_room (build_at l given w) m o o' e k h;
  past = λ z. (wrote (build_at l given w) h z).past;
  untouched = left_alone (build_at l given w) h;
}
  where
    by : Making → Outcome
    by x = byte_count (answer_of (within (length o) x))

-- ---- what was built

module _ (l : List ℕ) (given w : ℕ) (bytes : AllBytes l) (wide : is_width w ≡ true) (fine : judge w l given ≡ Listed) where
  rising : Rising w l
  rising = (judged_rising w l given bytes fine).0

  -- the number of an address of w bits, by its sixteen bytes
  by_address : (a : List ℕ) → AllBytes a → 8 * length a ≡ w → number_in l given w (number_of (address_bit a) w) ≡ number_at 128 (piece_at l) given (count_of l) (address a 0)
  by_address a b e =
      let n = number_of (address_bit a) w in
      let k = narrow w wide in
      let i : n * 2 ^ (128 - w) ≡ address a 0 = sym (number_wider a w 128 k (omega arith)) ∙ address_number a b in
      let q : address a 0 / 2 ^ (128 - w) ≡ n = ap (λ (x : ℕ). x / 2 ^ (128 - w)) (sym i) ∙ pow.shl-shr n (128 - w) in
      ap (number_in l given w) (sym q) ∙ sym (number_scaled w 128 k (piece_at l) given (count_of l) rising.short (address a 0))

  clean : (j : ℕ) → j < count_of l → address_at l j % 2 ^ (128 - length_at l j) ≡ 0
  clean j h = (fitting w l j ((lists.judged w l given fine).each j h).0).clean

  -- it lies in record j
  lies : (j : ℕ) → j < count_of l → (x : ℕ) → first l j ≤ x → x < past l j → holds 128 x (piece_at l j) ≡ true
  lies j h x f p =
      held_if 128 x (piece_at l j) (subst (λ (y : ℕ). y ≤ x) (first_is l j ∙ sym (clean-first l j (clean j h))) f) (subst (λ (y : ℕ). x < y) (past_is l j (clean j h)) p)

  -- or it does not
  lies_not : (j : ℕ) → j < count_of l → (x : ℕ) → (first l j ≤ x → x < past l j → ⊥) → holds 128 x (piece_at l j) ≡ false
  lies_not j h x n = go (holds 128 x (piece_at l j)) refl
    where
      go : (b : Bool) → holds 128 x (piece_at l j) ≡ b → holds 128 x (piece_at l j) ≡ false
      go true e =
          let k = held_from 128 x (piece_at l j) e in
          absurd (n (subst (λ (y : ℕ). y ≤ x) (clean-first l j (clean j h) ∙ sym (first_is l j)) k.0) (subst (λ (y : ℕ). x < y) (sym (past_is l j (clean j h))) k.1))
      go false e = e

  built_as : (m : List ℕ) → build_at l given w ≡ Made m → promise.Builds l given w m → Built l given w m
  built_as m e p = record {
    exact = e;
    accepted = p.accepted;
    returns = p.returns;
    recorded = λ a b s j h f g.
        p.walks a ∙ by_address a b s ∙ number_held 128 (piece_at l) given (address a 0) (count_of l) rising.rising j h (lies j h (address a 0) f g) ∙ number_read l j;
    others = λ a b s n. p.walks a ∙ by_address a b s ∙ number_none 128 (piece_at l) given (address a 0) (count_of l) (λ j h. lies_not j h (address a 0) (n j h));
  }

pub built : (l : List ℕ) (given w : ℕ) (o o' : List ℕ) {r x x' : ℕ} → AllBytes l → Writes (build_at l given w) o o' r (x ∷ []) (x' ∷ [])
    → (r ≡ 0 → promise.Builds l given w (take x' o')) → r ≡ 0 → Built l given w (take x' o')
built l given w o o' bytes h p z =
    let t = wrote (build_at l given w) h z in
    let f = made_from l given w t.bytes t.these in
    built_as l given w bytes f.0 f.1 _ (t.these ∙ ap Made (sym t.there)) (p z)
