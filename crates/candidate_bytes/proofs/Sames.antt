-- What `same` says of two rows of bytes: that they are equal; and how it goes a part at a time, from the last down.
-- Assumes nothing.
use mathlib.Core.Path.{◌≡◌, ◌∙◌, refl, sym, ap, ap₂}
use mathlib.Core.List.{List, [], ◌∷◌}
use mathlib.Core.Bool.{Bool, true, false, ◌&&◌, and-true, and-false, and_assoc}
use Prim.Native.Nat.{ℕ, zero, suc, ◌+◌, ◌≤◌, ◌<◌}
use native.Mathlib.Omega.{arith}
use borrow.Author.Tests.{eqb-true}
use lib.Dec.{eqb}
use lib.ListN.{length, take, drop, get_or}
use Rattle.candidate_bytes.specs.Candidate.{same}

-- both, where both together
pub both : (a b : Bool) → (a && b) ≡ true → (a ≡ true) × (b ≡ true)
both true b e = (refl, e)
both false b e = let z : ◌≡◌ {A = ℕ} 0 1 = cc in absurd (omega arith)

pub same_equal : (xs ys : List ℕ) → same xs ys ≡ true → xs ≡ ys
same_equal [] [] e = refl
same_equal [] (y ∷ ys) e = let z : ◌≡◌ {A = ℕ} 0 1 = cc in absurd (omega arith)
same_equal (x ∷ xs) [] e = let z : ◌≡◌ {A = ℕ} 0 1 = cc in absurd (omega arith)
same_equal (x ∷ xs) (y ∷ ys) e = let p = both (eqb x y) (same xs ys) e in ap₂ ◌∷◌ (eqb-true x y p.0) (same_equal xs ys p.1)

-- the first bytes, and k after them
pub parted : (j k : ℕ) (a b : List ℕ) → j ≤ length a → j ≤ length b
    → same (take (j + k) a) (take (j + k) b) ≡ (same (take j a) (take j b) && same (take k (drop j a)) (take k (drop j b)))
parted zero k a b p q = let z : 0 + k ≡ k = omega arith in rw z
parted (suc j) k [] b p q = absurd (omega arith)
parted (suc j) k (x ∷ a) [] p q = absurd (omega arith)
parted (suc j) k (x ∷ a) (y ∷ b) p q =
    let z : suc j + k ≡ suc (j + k) = omega arith in
    rw z (ap (λ (t : Bool). eqb x y && t) (parted j k a b (omega arith) (omega arith)) ∙ sym (and_assoc (eqb x y) (same (take j a) (take j b)) (same (take k (drop j a)) (take k (drop j b)))))

module _ (a b : List ℕ) (i j k : ℕ) (e : i ≡ j + k) (p : j ≤ length a) (q : j ≤ length b) where
  split : same (take i a) (take i b) ≡ (same (take j a) (take j b) && same (take k (drop j a)) (take k (drop j b)))
  split = rw e (parted j k a b p q)

  -- where the k bytes are equal those before them decide
  pub same_on : same (take k (drop j a)) (take k (drop j b)) ≡ true → same (take i a) (take i b) ≡ same (take j a) (take j b)
  same_on h = split ∙ rw h (and-true (same (take j a) (take j b)))

  pub same_differs : same (take k (drop j a)) (take k (drop j b)) ≡ false → same (take i a) (take i b) ≡ false
  same_differs h = split ∙ rw h (and-false (same (take j a) (take j b)))

-- one byte
pub same_byte : (a b : List ℕ) (i : ℕ) → i < length a → i < length b → same (take 1 (drop i a)) (take 1 (drop i b)) ≡ eqb (get_or a i 0) (get_or b i 0)
same_byte [] b i p q = absurd (omega arith)
same_byte (x ∷ a) [] i p q = absurd (omega arith)
same_byte (x ∷ a) (y ∷ b) zero p q = and-true (eqb x y)
same_byte (x ∷ a) (y ∷ b) (suc i) p q = same_byte a b i (omega arith) (omega arith)

-- rows of different length
pub same_unequal : (xs ys : List ℕ) → (length xs ≡ length ys → ⊥) → same xs ys ≡ false
same_unequal [] [] h = absurd (h refl)
same_unequal [] (y ∷ ys) h = refl
same_unequal (x ∷ xs) [] h = refl
same_unequal (x ∷ xs) (y ∷ ys) h = rw (same_unequal xs ys (λ e. h (ap suc e))) (and-false (eqb x y))
