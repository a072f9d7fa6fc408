-- Two lists of prefixes that give every address the same number are one list once joined by number: each, joined, is the list of the addresses at
-- which the number changes.
-- Assumes nothing.
use Prim.Native.Nat.{ℕ, zero, suc, ◌+◌, ◌-◌, ◌^◌, ◌≤◌, ◌<◌}
use mathlib.Core.Bool.{Bool, true, false, not}
use mathlib.Core.Path.{◌≡◌, refl, sym, ap, ◌∙◌}
use mathlib.Core.List.{List, [], ◌∷◌}
use native.Mathlib.Omega.{arith}
use lib.Dec.{eqb, leb, ltb}
use borrow.Author.Tests.{ltb-true, ltb-false, le-ltb, lt-leb, eq-eqb, ne_eqb}
use Rattle.prefix_records.specs.Tiling.{Piece, first_of, past_of, Tiles, keep, holding, JustOne}
use Rattle.prefix_records.proofs.TilingLaws.{some, tiles_le, and-false}
use Rattle.prefix_records.proofs.PlaceLaws.{held_if}
use Rattle.prefix_lists.specs.List.{number_at}
use Rattle.prefix_joins.specs.Joined.{Start, keep_start, joined_after, joined, starts_of, filled_from, filled}

-- ---- where a function of addresses changes

-- The starts of f at the k addresses from `at` on, behind an address with the number n.
unfoldable changes : (ℕ → ℕ) → ℕ → ℕ → ℕ → List Start
changes f n at zero = []
changes f n at (suc k) = keep_start (not (eqb (f at) n)) (record { from = at; number = f at }) (changes f (f at) (suc at) k)

-- where the number stays the same, nothing starts
same_on : (f : ℕ → ℕ) (n at k : ℕ) → f at ≡ n → changes f n at (suc k) ≡ changes f n (suc at) k
unfolding changes keep_start
same_on f n at k e = rw (e, eq-eqb n n refl)

-- over addresses that all have the number before them
skip : (f : ℕ → ℕ) (n j lo end k l : ℕ) → lo + j ≡ end → l ≡ j + k → ((x : ℕ) → lo ≤ x → x < end → f x ≡ n)
    → changes f n lo l ≡ changes f n end k
skip f n zero lo end k l e g h =
    let a : lo ≡ end = omega arith in
    let b : l ≡ k = omega arith in
    rw (a, b)
skip f n (suc j) lo end k l e g h =
    let b : l ≡ suc (j + k) = omega arith in
    rw b (same_on f n lo (j + k) (h lo (omega arith) (omega arith)))
    ∙ skip f n j (suc lo) end k (j + k) (omega arith) refl (λ x p q. h x (omega arith) q)

-- one start in front, which has the number of all addresses from it to the next
stretch : (f : ℕ → ℕ) (hi lo end m n : ℕ) (ss : List Start) → lo < end → end ≤ hi → ((x : ℕ) → lo ≤ x → x < end → f x ≡ m)
    → joined_after m ss ≡ changes f m end (hi - end)
    → joined_after n (record { from = lo; number = m } ∷ ss) ≡ changes f n lo (hi - lo)
unfolding joined_after changes
stretch f hi lo end m n ss h k same rest =
    let b : hi - lo ≡ suc (hi - suc lo) = omega arith in
    let z : f lo ≡ m = same lo (omega arith) h in
    let r : joined_after m ss ≡ changes f m (suc lo) (hi - suc lo) =
    rest ∙ sym (skip f m (end - suc lo) (suc lo) end (hi - end) (hi - suc lo) (omega arith) (omega arith) (λ x p q. same x (omega arith) q)) in
    rw (b, z) (ap (keep_start (not (eqb m n)) (record { from = lo; number = m })) r)

-- ---- joined, and joined behind a number

-- behind a higher number the first start stays
after_higher : (n : ℕ) (s : Start) (ss : List Start) → s.number < n → joined_after n (s ∷ ss) ≡ joined (s ∷ ss)
unfolding joined_after keep_start
after_higher n s ss h = rw (ne_eqb s.number n (λ e. omega arith))

-- lists that are alike behind every number are alike
joined_alike : (xs ys : List Start) → ((n : ℕ) → joined_after n xs ≡ joined_after n ys) → joined xs ≡ joined ys
unfolding joined_after
joined_alike [] [] h = refl
joined_alike [] (t ∷ ts) h = h (suc t.number) ∙ after_higher (suc t.number) t ts (omega arith)
joined_alike (s ∷ ss) [] h = sym (after_higher (suc s.number) s ss (omega arith)) ∙ h (suc s.number)
joined_alike (s ∷ ss) (t ∷ ts) h =
    let n = suc (s.number + t.number) in
    sym (after_higher n s ss (omega arith)) ∙ h n ∙ after_higher n t ts (omega arith)

-- ---- a tiling

-- an address of the first piece has its number
in-first : (w x n : ℕ) (p : Piece) (ps : List Piece) → first_of w p ≤ x → x < past_of w p → JustOne w x n (p ∷ ps) → n ≡ p.number
unfolding holding keep
in-first w x n p ps h k s =
    let e = rw (held_if w x p h k) at s.only in
    let y : s.piece ≡ p = cc in
    sym s.number ∙ ap (λ (q : Piece). q.number) y

-- an address behind it lies in one of the others
in_others : (w x n : ℕ) (p : Piece) (ps : List Piece) → past_of w p ≤ x → JustOne w x n (p ∷ ps) → JustOne w x n ps
unfolding holding keep
in_others w x n p ps h s = record {
  piece = s.piece;
  only = rw (le-ltb x (past_of w p) h, and-false (leb (first_of w p) x)) at s.only;
  number = s.number;
}

-- a tiling, joined, is where the number of its addresses changes
after-tiles : (w hi : ℕ) (f : ℕ → ℕ) (qs : List Piece) (lo n : ℕ) → Tiles w lo hi qs → ((x : ℕ) → lo ≤ x → x < hi → JustOne w x (f x) qs)
    → joined_after n (starts_of w qs) ≡ changes f n lo (hi - lo)
unfolding joined_after starts_of changes
after-tiles w hi f [] lo n t one = let e : hi - lo ≡ 0 = omega arith in rw e
after-tiles w hi f (p ∷ ps) lo n t one =
    let l = tiles_le w (past_of w p) hi ps t.2 in
    let k = some w p in
    let r = after-tiles w hi f ps (past_of w p) p.number t.2 (λ x a b. in_others w x (f x) p ps a (one x (omega (arith, t.0)) b)) in
    rw (← t.0) (stretch f hi (first_of w p) (past_of w p) p.number n (starts_of w ps) k l
    (λ x a b. in-first w x (f x) p ps a b (one x (omega (arith, t.0)) (omega arith))) r)

-- ---- prefixes with gaps

-- Prefixes that rise and do not overlap, among the addresses of w bits.
pub record Apart (w : ℕ) (ps : ℕ → Piece) (n : ℕ) : Type 0 where
  pub inside : (i : ℕ) → i < n → past_of w (ps i) ≤ 2 ^ w
  pub rising : (i j : ℕ) → i < j → j < n → past_of w (ps i) ≤ first_of w (ps j)

module _ (w : ℕ) (ps : ℕ → Piece) (given x : ℕ) where
  -- an address behind all of the first n prefixes has the given number
  behind_all : (n : ℕ) → ((i : ℕ) → i < n → past_of w (ps i) ≤ x) → number_at w ps given n x ≡ given
  unfolding number_at
  behind_all zero h = refl
  behind_all (suc n) h =
      rw (le-ltb x (past_of w (ps n)) (h n (omega arith)), and-false (leb (first_of w (ps n)) x)) (behind_all n (λ i k. h i (omega arith)))

  -- k prefixes that lie behind an address do not matter to it
  before_rest : (k j n : ℕ) → n ≡ k + j → ((i : ℕ) → j ≤ i → i < n → x < first_of w (ps i)) → number_at w ps given n x ≡ number_at w ps given j x
  unfolding number_at
  before_rest zero j n e h = let z : n ≡ j = omega arith in rw z
  before_rest (suc k) j n e h =
      let z : n ≡ suc (k + j) = omega arith in
      rw (z, lt-leb (first_of w (ps (k + j))) x (h (k + j) (omega arith) (omega arith)))
      (before_rest k j (k + j) refl (λ i a b. h i a (omega arith)))

module _ (w : ℕ) (ps : ℕ → Piece) (given all : ℕ) (apart : Apart w ps all) where
  -- an address behind the first j prefixes and before the others has the given number
  in_gap : (x k j : ℕ) → all ≡ k + j → ((i : ℕ) → i < j → past_of w (ps i) ≤ x) → ((i : ℕ) → j ≤ i → i < all → x < first_of w (ps i))
      → number_at w ps given all x ≡ given
  in_gap x k j e below above = before_rest w ps given x k j all e above ∙ behind_all w ps given x j below

  -- an address in a prefix has the prefix's number
  in_prefix : (x k j : ℕ) → all ≡ k + suc j → first_of w (ps j) ≤ x → x < past_of w (ps j) → number_at w ps given all x ≡ (ps j).number
  unfolding number_at
  in_prefix x k j e h l =
      before_rest w ps given x k (suc j) all e (λ i a b. omega (arith, apart.rising j i a b)) ∙ rw (held_if w x (ps j) h l)

  -- prefix i or a later one begins at the first address of prefix i or behind it
  later : (i j : ℕ) → i ≤ j → j < all → first_of w (ps i) ≤ first_of w (ps j)
  later i j h k = go (ltb i j) refl
    where
      go : (t : Bool) → ltb i j ≡ t → first_of w (ps i) ≤ first_of w (ps j)
      go true e = omega (arith, some w (ps i), apart.rising i j (ltb-true i j e) k)
      go false e = let z : i ≡ j = omega (arith, ltb-false i j e) in rw z (omega arith)

  -- all prefixes before prefix i + 1 end where prefix i ends, or before
  earlier : (i j : ℕ) → i < all → j < suc i → past_of w (ps j) ≤ past_of w (ps i)
  earlier i j h k = go (ltb j i) refl
    where
      go : (t : Bool) → ltb j i ≡ t → past_of w (ps j) ≤ past_of w (ps i)
      go true e = omega (arith, some w (ps i), apart.rising j i (ltb-true j i e) h)
      go false e = let z : j ≡ i = omega (arith, ltb-false j i e) in rw z (omega arith)

  -- a gap in front, where there is one
  gap_first : (k i at hi n : ℕ) (ss : List Start) → all ≡ k + i → at ≤ hi → hi ≤ 2 ^ w → ((j : ℕ) → j < i → past_of w (ps j) ≤ at)
      → ((j : ℕ) → i ≤ j → j < all → hi ≤ first_of w (ps j))
      → ((m : ℕ) → joined_after m ss ≡ changes (number_at w ps given all) m hi (2 ^ w - hi))
      → joined_after n (keep_start (ltb at hi) (record { from = at; number = given }) ss) ≡ changes (number_at w ps given all) n at (2 ^ w - at)
  unfolding keep_start
  gap_first k i at hi n ss e h l below above rest = go (ltb at hi) refl
    where
      go : (t : Bool) → ltb at hi ≡ t
          → joined_after n (keep_start t (record { from = at; number = given }) ss) ≡ changes (number_at w ps given all) n at (2 ^ w - at)
      go true g =
          stretch (number_at w ps given all) (2 ^ w) at hi given n ss (ltb-true at hi g) l
          (λ x a b. in_gap x k i e (λ j q. omega (arith, below j q)) (λ j q r. omega (arith, above j q r))) (rest given)
      go false g = let z : at ≡ hi = omega (arith, ltb-false at hi g) in rw z (rest n)

  -- prefixes with gaps, joined, are where the number of the addresses changes
  after_filled : (k i at n : ℕ) → all ≡ k + i → at ≤ 2 ^ w → ((j : ℕ) → j < i → past_of w (ps j) ≤ at) → (i < all → at ≤ first_of w (ps i))
      → joined_after n (filled_from w ps given k i at) ≡ changes (number_at w ps given all) n at (2 ^ w - at)
  unfolding filled_from joined_after changes
  after_filled zero i at n e h below next =
      gap_first 0 i at (2 ^ w) n [] e h (omega arith) below (λ j a b. absurd (omega arith)) (λ m. let z : 2 ^ w - 2 ^ w ≡ 0 = omega arith in rw z)
  after_filled (suc k) i at n e h below next =
      let q : i < all = omega arith in
      let s = some w (ps i) in
      let t = apart.inside i q in
      gap_first (suc k) i at (first_of w (ps i)) n (record { from = first_of w (ps i); number = (ps i).number } ∷ filled_from w ps given k (suc i) (past_of w (ps i)))
      e (next q) (omega (arith, s, t)) below (λ j a b. later i j a b)
      (λ m. stretch (number_at w ps given all) (2 ^ w) (first_of w (ps i)) (past_of w (ps i)) (ps i).number m (filled_from w ps given k (suc i) (past_of w (ps i))) s t
      (λ x a b. in_prefix x k i (omega arith) a b)
      (after_filled k (suc i) (past_of w (ps i)) (ps i).number (omega arith) t (λ j a. earlier i j q a) (λ a. apart.rising i (suc i) (omega arith) a)))

-- ---- the law

-- A tiling that gives every address the number that the prefixes and the given number give it is, joined by number, the prefixes with the gaps at
-- the given number, joined by number.
pub joined_same : (w : ℕ) (qs : List Piece) (ps : ℕ → Piece) (given n : ℕ) → Tiles w 0 (2 ^ w) qs → Apart w ps n
    → ((x : ℕ) → x < 2 ^ w → JustOne w x (number_at w ps given n x) qs)
    → joined (starts_of w qs) ≡ joined (filled w ps given n)
joined_same w qs ps given n t apart one =
    joined_alike (starts_of w qs) (filled w ps given n)
    (λ m. after-tiles w (2 ^ w) (number_at w ps given n) qs 0 m t (λ x a b. one x b)
    ∙ sym (after_filled w ps given n apart n 0 0 m (omega arith) (omega arith) (λ j a. absurd (omega arith)) (λ a. omega arith)))
