-- What a list that is not refused has: prefixes no longer than the width, each in its record by its first address, rising and not overlapping, with
-- numbers that a RETURN can have; and the same at a greater width. And that a refusal is 21 or 22.
-- Assumes nothing.
use Prim.Native.Nat.{ℕ, zero, suc, ◌+◌, ◌-◌, ◌%◌, ◌≤◌, ◌<◌}
use mathlib.Core.Bool.{Bool, true, false}
use mathlib.Core.Path.{◌≡◌, refl, sym, subst, ◌∙◌}
use mathlib.Core.List.{List}
use mathlib.Core.Logic.{◌⊎◌, inl, inr}
use native.Mathlib.Nat.{add-suc}
use native.Mathlib.Omega.{arith}
use lib.Dec.{leb}
use lib.ListN.{length, get_or}
use borrow.Author.Tests.{eqb-true, eq-eqb, leb-true}
use Rattle.prefix_records.specs.Tiling.{first_of, past_of}
use Rattle.prefix_records.proofs.TilingLaws.{some}
use Rattle.prefix_lists.specs.List.{count_of, piece_at, fits, is_number, need, judge_from, judge}
use Rattle.prefix_lists.specs.models.Listed.{Number, Rising}
use Rattle.prefix_lists.proofs.FitLaws.{Bytes, Fitting, fitting, and-true, clean-first, clean_inside}
use Rattle.prefix_lists.specs.Judged.{Listed}
use Rattle.refusals.specs.declared.Refusal.{Refusal}
use Rattle.std.specs.Prelude.{Result, Err}
use Rattle.refusals.specs.declared.Refusal.TheVariants as refusal

-- ---- a list that is not refused

-- a refusal is not "listed"
refused : (r : Refusal) → Err r ≡ Listed → ⊥
refused r e = cc

-- a test that a listed one passed, and what was said later
needed : (b : Bool) (r : Refusal) (later : Result (Unit {0}) Refusal) → need b r later ≡ Listed → (b ≡ true) × (later ≡ Listed)
unfolding need
needed true r later h = (refl, h)
needed false r later h = absurd (refused r h)

-- a number that passes the test
number : (n : ℕ) → is_number n ≡ true → Number n
number n h =
    let a = and-true (leb 1 n) (leb n 33521664) h in
    (leb-true 1 n a.0, leb-true n 33521664 a.1)

-- record i passes both its tests
abbrev pub Passes : ℕ → List ℕ → ℕ → Type 0
Passes w l i = (fits w l i ≡ true) × (is_number (piece_at l i).number ≡ true)

-- one record more in front
front : (w : ℕ) (l : List ℕ) (n i : ℕ) → Passes w l i → ((k : ℕ) → k < n → Passes w l (suc i + k)) → (k : ℕ) → k < suc n → Passes w l (i + k)
front w l n i g more zero d = subst (Passes w l) (omega arith) g
front w l n i g more (suc k) d = subst (Passes w l) (omega arith) (more k (omega (arith, d)))

-- each of n records from record i on, and what was said later
judged_from : (w : ℕ) (l : List ℕ) (n i : ℕ) (later : Result (Unit {0}) Refusal) → judge_from w l n i later ≡ Listed
    → ((k : ℕ) → k < n → Passes w l (i + k)) × (later ≡ Listed)
unfolding judge_from
judged_from w l zero i later h = (λ k d. absurd (omega (arith, d)), h)
judged_from w l (suc n) i later h =
    let a = needed _ refusal.Prefix _ h in
    let b = needed _ refusal.Number _ a.1 in
    let r = judged_from w l n (suc i) later b.1 in
    (front w l n i (a.0, b.0) r.0, r.1)

-- what is so of a list that is not refused, test by test
pub record Judgement (w : ℕ) (l : List ℕ) (given : ℕ) : Type 0 where
  pub whole : length l % 24 ≡ 0
  pub each : (i : ℕ) → i < count_of l → Passes w l i
  pub last : is_number given ≡ true

pub judged : (w : ℕ) (l : List ℕ) (given : ℕ) → judge w l given ≡ Listed → Judgement w l given
unfolding judge
judged w l given e =
    let a = needed _ refusal.Prefix _ e in
    let r = judged_from w l (count_of l) 0 _ a.1 in
    record {
      whole = eqb-true (length l % 24) 0 a.0;
      each = λ i d. subst (Passes w l) (omega arith) (r.0 i d);
      last = (needed _ refusal.Number _ r.1).0;
    }

-- and a list of which all of it is so is not refused
passed_from : (w : ℕ) (l : List ℕ) (n i : ℕ) (later : Result (Unit {0}) Refusal) → ((k : ℕ) → k < n → Passes w l (i + k)) → judge_from w l n i later ≡ later
unfolding judge_from need
passed_from w l zero i later h = refl
passed_from w l (suc n) i later h =
    let g : Passes w l i = subst (Passes w l) (omega arith) (h 0 (omega arith)) in
    rw (g.0, g.1) (passed_from w l n (suc i) later (λ k d. subst (Passes w l) (omega arith) (h (suc k) (omega (arith, d)))))

pub all_passed : (w : ℕ) (l : List ℕ) (given : ℕ) → Judgement w l given → judge w l given ≡ Listed
unfolding judge need
all_passed w l given j =
    rw (eq-eqb (length l % 24) 0 j.whole) (passed_from w l (count_of l) 0 (need (is_number given) refusal.Number Listed) (λ k d. subst (Passes w l) (omega arith) (j.each k d)) ∙ rw j.last)

-- ---- rising

-- prefixes of which each begins behind the one before it rise
module _ (w : ℕ) (l : List ℕ) (good : (i : ℕ) → i < count_of l → Fitting w l i) where
  -- a record's first address is not below the end of the one before it
  next_behind : (i : ℕ) → suc i < count_of l → past_of 128 (piece_at l i) ≤ first_of 128 (piece_at l (suc i))
  next_behind i h =
      let g = good (suc i) h in
      subst (λ (n : ℕ). past_of 128 (piece_at l i) ≤ n) (sym (clean-first l (suc i) g.clean)) g.behind

  -- k records further on
  rising_by : (i k : ℕ) → suc (i + k) < count_of l → past_of 128 (piece_at l i) ≤ first_of 128 (piece_at l (suc (i + k)))
  rising_by i zero h = subst (λ (n : ℕ). suc n < count_of l → past_of 128 (piece_at l i) ≤ first_of 128 (piece_at l (suc n))) (omega arith) (next_behind i) h
  rising_by i (suc k) h =
      let e = add-suc i k in
      let m : suc (suc (i + k)) < count_of l = omega (arith, h) in
      let r = rising_by i k (omega (arith, m)) in
      let s = some 128 (piece_at l (suc (i + k))) in
      let t = next_behind (suc (i + k)) m in
      subst (λ (n : ℕ). past_of 128 (piece_at l i) ≤ first_of 128 (piece_at l (suc n))) (sym e) (omega (arith, r, s, t))

  -- of any two records
  rising_all : (i j : ℕ) → i < j → j < count_of l → past_of 128 (piece_at l i) ≤ first_of 128 (piece_at l j)
  rising_all i j d h =
      let e : suc (i + (j - suc i)) ≡ j = omega (arith, d) in
      subst (λ (n : ℕ). past_of 128 (piece_at l i) ≤ first_of 128 (piece_at l n)) e (rising_by i (j - suc i) (omega (arith, e, h)))

-- the length of a record's prefix
short_piece : (w : ℕ) (l : List ℕ) (i : ℕ) → Fitting w l i → (piece_at l i).length ≤ w
unfolding piece_at
short_piece w l i g = g.short

-- records that pass
rise : (w : ℕ) (l : List ℕ) → Bytes l → ((i : ℕ) → i < count_of l → Passes w l i) → Rising w l
rise w l bytes pass =
    let fit : (i : ℕ) → i < count_of l → Fitting w l i = λ i d. fitting w l i (pass i d).0 in
    record {
      short = λ i d. short_piece w l i (fit i d);
      first = λ i d. clean-first l i (fit i d).clean;
      inside = λ i d. clean_inside l i bytes (fit i d).clean;
      rising = rising_all w l fit;
      numbers = λ i d. number (piece_at l i).number (pass i d).1;
    }

-- a list that is not refused rises, and the given number is one that a RETURN can have
pub judged_rising : (w : ℕ) (l : List ℕ) (given : ℕ) → ((i : ℕ) → get_or l i 0 < 256) → judge w l given ≡ Listed → Rising w l × Number given
judged_rising w l given bytes e = let j = judged w l given e in (rise w l bytes j.each, number given j.last)

-- ---- a list that is refused

-- for its prefixes or for a number
abbrev pub PrefixOrNumber : Refusal → Type 0
PrefixOrNumber r = (r ≡ refusal.Prefix) ⊎ (r ≡ refusal.Number)

-- listed, or refused for one of the two
abbrev Told : Result (Unit {0}) Refusal → Type 0
Told Listed = Unit {0}
Told (Err r) = PrefixOrNumber r

-- a test that refuses for one of the two
need_told : (b : Bool) (r : Refusal) (later : Result (Unit {0}) Refusal) → PrefixOrNumber r → Told later → Told (need b r later)
unfolding need
need_told true r later h t = t
need_told false r later h t = h

-- the tests of the records
from_told : (w : ℕ) (l : List ℕ) (n i : ℕ) (later : Result (Unit {0}) Refusal) → Told later → Told (judge_from w l n i later)
unfolding judge_from
from_told w l zero i later t = t
from_told w l (suc n) i later t = need_told _ _ _ (inl refl) (need_told _ _ _ (inr refl) (from_told w l n (suc i) later t))

-- a refusal is for the prefixes, 21, or for a number, 22
pub judged_refused : (w : ℕ) (l : List ℕ) (given : ℕ) (r : Refusal) → judge w l given ≡ Err r → PrefixOrNumber r
unfolding judge
judged_refused w l given r e = subst Told e (need_told _ _ _ (inl refl) (from_told w l (count_of l) 0 _ (need_told (is_number given) _ Listed (inr refl) tt)))

-- ---- a greater width

-- what rises at a width rises at a greater one
pub rising_wider : {w v : ℕ} {l : List ℕ} → w ≤ v → Rising w l → Rising v l
rising_wider h r =
    record {
      short = λ i d. omega (arith, h, r.short i d);
      first = r.first;
      inside = r.inside;
      rising = r.rising;
      numbers = r.numbers;
    }
