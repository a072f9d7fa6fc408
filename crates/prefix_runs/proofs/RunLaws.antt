-- The pieces of a list of prefixes, each a prefix or the gap between two: the number of their addresses, and where the list is cut below them.
-- Assumes nothing.
use Prim.Native.Nat.{ℕ, zero, suc, ◌+◌, ◌-◌, ◌^◌, ◌≤◌, ◌<◌}
use mathlib.Core.Bool.{Bool, true, false}
use mathlib.Core.Path.{◌≡◌, refl, ◌∙◌}
use mathlib.Core.List.{List}
use native.Mathlib.Nat.{suc-mul}
use native.Mathlib.Omega.{arith}
use lib.Dec.{eqb, leb}
use borrow.Author.Tests.{eqb-true, eqb-false, lt-leb, le-ltb}
use Rattle.prefix_records.specs.Tiling.{Piece, first_of, past_of, holds}
use Rattle.prefix_records.proofs.TilingLaws.{and-false, some}
use Rattle.prefix_records.proofs.PlaceLaws.{held_if}
use Rattle.prefix_lists.specs.List.{count_of, piece_at, number_at}
use Rattle.prefix_lists.specs.models.Listed.{Rising}
use Rattle.prefix_runs.specs.models.Runs.{Cut, numbers}

-- ---- prefixes

-- the address behind a prefix, from its first one
pub past_of_lem : (p : Piece) → past_of 128 p ≡ first_of 128 p + 2 ^ (128 - p.length)
past_of_lem p = omega (arith, suc-mul p.prefix (2 ^ (128 - p.length)))

-- an address before a prefix does not lie in it
before_it : (x : ℕ) (p : Piece) → x < first_of 128 p → holds 128 x p ≡ false
before_it x p h = rw (lt-leb (first_of 128 p) x h)

-- and neither does one behind it
past_it : (x : ℕ) (p : Piece) → past_of 128 p ≤ x → holds 128 x p ≡ false
past_it x p h = rw (le-ltb x (past_of 128 p) h, and-false (leb (first_of 128 p) x))

-- ---- the number of an address

module _ (ps : ℕ → Piece) (given : ℕ) where
  -- prefixes from e on do not matter to an address before e
  below-cut : (n e j m : ℕ) → m ≤ n → j ≤ m → ((i : ℕ) → j ≤ i → i < n → e ≤ first_of 128 (ps i)) → (a : ℕ) → a < e
      → number_at 128 ps given m a ≡ number_at 128 ps given j a
  unfolding number_at
  below-cut n e j zero h k above a g = let z : j ≡ 0 = omega arith in rw z
  below-cut n e j (suc m) h k above a g = go (eqb j (suc m)) refl (λ q. below-cut n e j m (omega arith) q above a g)
    where
      go : (b : Bool) → eqb j (suc m) ≡ b → (j ≤ m → number_at 128 ps given m a ≡ number_at 128 ps given j a) → number_at 128 ps given (suc m) a ≡ number_at 128 ps given j a
      go true q more = let z : j ≡ suc m = eqb-true j (suc m) q in rw z
      go false q more =
          let y = eqb-false j (suc m) q in
          rw (before_it a (ps m) (omega (arith, above m (omega (arith, y, k)) (omega arith)))) (more (omega (arith, y, k)))

  -- none of the first j prefixes has an address past them all
  above_all : (j c : ℕ) → ((i : ℕ) → i < j → past_of 128 (ps i) ≤ c) → (a : ℕ) → c ≤ a → number_at 128 ps given j a ≡ given
  unfolding number_at
  above_all zero c b a g = refl
  above_all (suc j) c b a g = rw (past_it a (ps j) (omega (arith, b j (omega arith)))) (above_all j c (λ i q. b i (omega arith)) a g)

  -- the last of the first j prefixes has its addresses
  in_last : (j a : ℕ) → first_of 128 (ps j) ≤ a → a < past_of 128 (ps j) → number_at 128 ps given (suc j) a ≡ (ps j).number
  unfolding number_at
  in_last j a h k = rw (held_if 128 a (ps j) h k)

-- ---- pieces

module _ (l : List ℕ) (given : ℕ) where
  -- the piece below e is a prefix
  pub piece-record : (e j : ℕ) → Cut l e (suc j) → past_of 128 (piece_at l j) ≡ e
      → (a : ℕ) → first_of 128 (piece_at l j) ≤ a → a < e → numbers l given a ≡ (piece_at l j).number
  piece-record e j c q a h g =
      below-cut (piece_at l) given (count_of l) e (suc j) (count_of l) (omega arith) c.some c.above a g
      ∙ in_last (piece_at l) given j a h (omega (arith, q, g))

  -- the piece below e is a gap
  pub piece_gap : (e j from : ℕ) → Cut l e j → ((i : ℕ) → i < j → past_of 128 (piece_at l i) ≤ from)
      → (a : ℕ) → from ≤ a → a < e → numbers l given a ≡ given
  piece_gap e j from c b a h g =
      below-cut (piece_at l) given (count_of l) e j (count_of l) (omega arith) c.some c.above a g
      ∙ above_all (piece_at l) given j from b a h

module _ (l : List ℕ) (r : Rising 128 l) where
  -- below a prefix: the list is cut at its first address
  pub cut_record : (e j : ℕ) → Cut l e (suc j) → Cut l (first_of 128 (piece_at l j)) j
  cut_record e j c = record {
    some = omega (arith, c.some);
    below = λ i h. r.rising i j h (omega (arith, c.some));
    above = λ i h k. later i h k;
  }
    where
      later : (i : ℕ) → j ≤ i → i < count_of l → first_of 128 (piece_at l j) ≤ first_of 128 (piece_at l i)
      later i h k = go (eqb i j) refl
        where
          go : (b : Bool) → eqb i j ≡ b → first_of 128 (piece_at l j) ≤ first_of 128 (piece_at l i)
          go true q = let z : i ≡ j = eqb-true i j q in rw z (omega arith)
          go false q = let y = eqb-false i j q in omega (arith, r.rising j i (omega (arith, y, h)) k, some 128 (piece_at l j))
