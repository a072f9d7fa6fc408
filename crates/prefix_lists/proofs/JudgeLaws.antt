-- A list judged record by record, as code does: what each test decides, and what is left to judge behind a record that passes. Assumes nothing.
use Prim.Native.Nat.{ℕ, suc, ◌+◌, ◌-◌, ◌*◌, ◌%◌, ◌≤◌, ◌<◌}
use mathlib.Core.Bool.{true, false}
use mathlib.Core.Path.{◌≡◌, refl, sym, ap, ◌∙◌}
use mathlib.Core.List.{List}
use native.Mathlib.Numerals.{add-one}
use native.Mathlib.Omega.{arith}
use lib.ListN.{length}
use borrow.Author.Tests.{eq-eqb, ne_eqb}
use Rattle.byte_numbers.specs.Numbers.{number4}
use Rattle.prefix_lists.specs.List.{count_of, piece_at, fits, is_number, need, judge_from, judge}
use Rattle.prefix_lists.specs.Judged.{Listed}
use Rattle.refusals.specs.declared.Refusal.{Refusal}
use Rattle.refusals.specs.declared.Refusal.TheVariants as refusal
use Rattle.std.specs.Prelude.{Result, Err}

-- what is said of the given number, after the records
abbrev pub closing : ℕ → Result (Unit {0}) Refusal
closing given = need (is_number given) refusal.Number Listed

-- what is left to judge of n records, from record i on
abbrev pub left : ℕ → List ℕ → ℕ → ℕ → ℕ → Result (Unit {0}) Refusal
left w l given n i = judge_from w l (n - i) i (closing given)

-- ---- the length first

-- bytes that are no multiple of 24
pub judge_uneven : (w : ℕ) (l : List ℕ) (given : ℕ) → (length l % 24 ≡ 0 → ⊥) → Err refusal.Prefix ≡ judge w l given
unfolding judge need
judge_uneven w l given h = rw (ne_eqb (length l % 24) 0 h)

-- a multiple: all records are left
pub judge_even : (w : ℕ) (l : List ℕ) (given : ℕ) → length l % 24 ≡ 0 → judge w l given ≡ left w l given (count_of l) 0
unfolding judge need
judge_even w l given h =
    let e : count_of l - 0 ≡ count_of l = omega arith in
    rw (eq-eqb (length l % 24) 0 h, e)

-- ---- the records

-- the number of record i, as it is read
pub number_read : (l : List ℕ) (i : ℕ) → (piece_at l i).number ≡ number4 l (24 * i + 20)
unfolding piece_at
number_read l i = refl

module _ (w : ℕ) (l : List ℕ) (given n i : ℕ) (more : i < n) where
  -- record i, and what is left behind it
  one : left w l given n i ≡ need (fits w l i) refusal.Prefix (need (is_number (piece_at l i).number) refusal.Number (left w l given n (i + 1)))
  unfolding judge_from
  one =
      let e : n - i ≡ suc (n - (i + 1)) = omega (arith, more) in
      ap (λ (m : ℕ). judge_from w l m i (closing given)) e
      ∙ ap (λ (j : ℕ). need (fits w l i) refusal.Prefix (need (is_number (piece_at l i).number) refusal.Number (judge_from w l (n - (i + 1)) j (closing given)))) (sym (add-one i))

  -- a record that does not fit
  pub judge_unfit : fits w l i ≡ false → left w l given n i ≡ Err refusal.Prefix
  unfolding need
  judge_unfit h = one ∙ rw h

  -- one that fits, with a wrong number
  pub judge-number : fits w l i ≡ true → is_number (piece_at l i).number ≡ false → left w l given n i ≡ Err refusal.Number
  unfolding need
  judge-number h k = one ∙ rw (h, k)

  -- one that passes
  pub judge-next : fits w l i ≡ true → is_number (piece_at l i).number ≡ true → left w l given n i ≡ left w l given n (i + 1)
  unfolding need
  judge-next h k = one ∙ rw (h, k)

-- ---- the given number

-- no record is left
pub judge_closing : (w : ℕ) (l : List ℕ) (given n i : ℕ) → n ≤ i → left w l given n i ≡ closing given
unfolding judge_from
judge_closing w l given n i h =
    let e : n - i ≡ 0 = omega (arith, h) in
    ap (λ (m : ℕ). judge_from w l m i (closing given)) e

-- a wrong number given, and a right one
pub closing_no : (given : ℕ) → is_number given ≡ false → closing given ≡ Err refusal.Number
unfolding need
closing_no given h = rw h

pub closing_yes : (given : ℕ) → is_number given ≡ true → closing given ≡ Listed
unfolding need
closing_yes given h = rw h
