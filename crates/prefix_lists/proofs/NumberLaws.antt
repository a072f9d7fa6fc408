-- The number of an address by prefixes that rise and do not overlap: that of the prefix in which it lies, or the given one. Assumes nothing.
use Prim.Native.Nat.{ℕ, zero, suc, ◌≤◌, ◌<◌}
use mathlib.Core.Bool.{Bool, true, false}
use mathlib.Core.Path.{◌≡◌, refl, sym}
use native.Mathlib.Omega.{arith}
use lib.Dec.{eqb}
use borrow.Author.Tests.{eqb-true, eqb-false, lt-leb}
use Rattle.prefix_records.specs.Tiling.{Piece, first_of, past_of, holds}
use Rattle.prefix_records.proofs.PlaceLaws.{held_from}
use Rattle.prefix_lists.specs.List.{number_at}

module _ (w : ℕ) (ps : ℕ → Piece) (given x : ℕ) where
  -- an address before a prefix does not lie in it
  before : (p : Piece) → x < first_of w p → holds w x p ≡ false
  before p h = rw (lt-leb (first_of w p) x h)

  -- in a prefix: its number
  pub number_held : (n : ℕ) → ((i j : ℕ) → i < j → j < n → past_of w (ps i) ≤ first_of w (ps j))
      → (j : ℕ) → j < n → holds w x (ps j) ≡ true → number_at w ps given n x ≡ (ps j).number
  unfolding number_at
  number_held zero rising j h e = absurd (omega arith)
  number_held (suc n) rising j h e = go (eqb j n) refl (λ k. number_held n (λ i l a b. rising i l a (omega arith)) j k e)
    where
      go : (b : Bool) → eqb j n ≡ b → (j < n → number_at w ps given n x ≡ (ps j).number) → number_at w ps given (suc n) x ≡ (ps j).number
      go true q ih = let z : n ≡ j = sym (eqb-true j n q) in rw (z, e)
      go false q ih =
          let k : j < n = omega (arith, eqb-false j n q, h) in
          let l = held_from w x (ps j) e in
          rw (before (ps n) (omega (arith, l.1, rising j n k (omega arith)))) (ih k)

  -- in none: the given one
  pub number_none : (n : ℕ) → ((j : ℕ) → j < n → holds w x (ps j) ≡ false) → number_at w ps given n x ≡ given
  unfolding number_at
  number_none zero h = refl
  number_none (suc n) h = rw (h n (omega arith)) (number_none n (λ j k. h j (omega arith)))
