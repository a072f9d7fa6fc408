-- Places of a list of n, no place twice: there are at most n, one more may be put behind, and each is below n.
-- Assumes nothing.
use mathlib.Core.Path.{◌≡◌, refl}
use mathlib.Core.List.{List, [], ◌∷◌, ◌++◌}
use Prim.Native.Nat.{ℕ, zero, suc, ◌+◌, ◌≤◌, ◌<◌}
use native.Mathlib.Omega.{arith}
use native.Mathlib.Decide.{dec_le, ℕ_discrete}
use borrow.Author.Tests.{eq-eqb, ne_eqb, lt-ltb, le-ltb}
use lib.Dec.{eqb, ltb}
use lib.ListN.{length, get_or}
use Rattle.pick_passes.specs.models.Places.{tally, times, Places}

one_self : (p : ℕ) → tally (eqb p p) ≡ 1
one_self p = rw (eq-eqb p p refl)

one_other : (p q : ℕ) → (p ≡ q → ⊥) → tally (eqb p q) ≡ 0
one_other p q h = rw (ne_eqb p q h)

times-append : (p : ℕ) (ps qs : List ℕ) → times p (ps ++ qs) ≡ times p ps + times p qs
times-append p [] qs = omega arith
times-append p (q ∷ ps) qs = omega (arith, times-append p ps qs)

-- how many of a list are below n
abbrev under : ℕ → List ℕ → ℕ
under n [] = 0
under n (p ∷ ps) = tally (ltb p n) + under n ps

under-zero : (ps : List ℕ) → under 0 ps ≡ 0
under-zero [] = refl
under-zero (p ∷ ps) = rw (le-ltb p 0 (omega arith)) (omega (arith, under-zero ps))

under_one : (n p : ℕ) → tally (ltb p (suc n)) ≡ tally (ltb p n) + tally (eqb n p)
under_one n p = go (ℕ_discrete n p)
  where
    other : (n ≡ p → ⊥) → Dec (suc p ≤ n) → tally (ltb p (suc n)) ≡ tally (ltb p n) + tally (eqb n p)
    other h (yes l) = rw (lt-ltb p (suc n) (omega arith), lt-ltb p n l, ne_eqb n p h)
    other h (no l) = rw (le-ltb p (suc n) (omega arith), le-ltb p n (omega arith), ne_eqb n p h)

    go : Dec (n ≡ p) → tally (ltb p (suc n)) ≡ tally (ltb p n) + tally (eqb n p)
    go (yes e) = rw (lt-ltb p (suc n) (omega arith), le-ltb p n (omega arith), eq-eqb n p e)
    go (no h) = other h (dec_le (suc p) n)

under-suc : (n : ℕ) (ps : List ℕ) → under (suc n) ps ≡ under n ps + times n ps
under-suc n [] = refl
under-suc n (p ∷ ps) = omega (arith, under_one n p, under-suc n ps)

under_le : (n : ℕ) (ps : List ℕ) → ((p : ℕ) → times p ps ≤ 1) → under n ps ≤ n
under_le zero ps h = omega (arith, under-zero ps)
under_le (suc n) ps h = omega (arith, under-suc n ps, under_le n ps h, h n)

all_under : (n : ℕ) (ps : List ℕ) → ((p : ℕ) → n ≤ p → times p ps ≡ 0) → under n ps ≡ length ps
all_under n [] h = refl
all_under n (q ∷ ps) h = go (dec_le n q) (all_under n ps (λ p l. omega (arith, h p l)))
  where
    go : Dec (n ≤ q) → under n ps ≡ length ps → under n (q ∷ ps) ≡ length (q ∷ ps)
    go (yes l) e = absurd (omega (arith, h q l, one_self q))
    go (no l) e = rw (lt-ltb q n (omega arith)) (omega arith)

-- there are at most n
pub places-few : (n : ℕ) (ps : List ℕ) → Places n ps → length ps ≤ n
places-few n ps w = omega (arith, all_under n ps w.below, under_le n ps w.once)

pub places_none : (n : ℕ) → Places n []
places_none n = record { once = λ p. omega arith; below = λ p h. refl }

pub places_more : (n m : ℕ) (ps : List ℕ) → n ≤ m → Places n ps → Places m ps
places_more n m ps h w = record { once = w.once; below = λ p l. w.below p (omega arith) }

-- a place that the list lacks, put behind
pub places_snoc : (n : ℕ) (ps : List ℕ) (i : ℕ) → i < n → times i ps ≡ 0 → Places n ps → Places n (ps ++ (i ∷ []))
places_snoc n ps i h z w = record { once = λ p. one p (ℕ_discrete p i); below = λ p l. none p l }
  where
    one : (p : ℕ) → Dec (p ≡ i) → times p (ps ++ (i ∷ [])) ≤ 1
    one p (yes e) = rw e (omega (arith, times-append i ps (i ∷ []), one_self i))
    one p (no e) = omega (arith, times-append p ps (i ∷ []), one_other p i e, w.once p)

    none : (p : ℕ) → n ≤ p → times p (ps ++ (i ∷ [])) ≡ 0
    none p l = omega (arith, times-append p ps (i ∷ []), one_other p i (omega arith), w.below p l)

counted : (ps : List ℕ) (j : ℕ) → j < length ps → 1 ≤ times (get_or ps j 0) ps
counted [] j h = absurd (omega arith)
counted (p ∷ ps) zero h = omega (arith, one_self p)
counted (p ∷ ps) (suc j) h = omega (arith, counted ps j (omega arith))

-- each is below n
pub place-below : (n : ℕ) (ps : List ℕ) (j : ℕ) → Places n ps → j < length ps → get_or ps j 0 < n
place-below n ps j w h = go (dec_le n (get_or ps j 0))
  where
    go : Dec (n ≤ get_or ps j 0) → get_or ps j 0 < n
    go (yes l) = absurd (omega (arith, w.below (get_or ps j 0) l, counted ps j h))
    go (no l) = omega arith
