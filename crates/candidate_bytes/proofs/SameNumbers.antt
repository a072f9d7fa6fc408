-- Rows of bytes are equal where their numbers are.
-- Assumes nothing.
use mathlib.Core.Path.{◌≡◌, ◌∙◌, refl, sym, ap}
use mathlib.Core.List.{List, [], ◌∷◌}
use mathlib.Core.Bool.{◌&&◌}
use Prim.Native.Nat.{ℕ, ◌+◌, ◌*◌, ◌≤◌}
use native.Mathlib.Omega.{arith}
use native.Mathlib.Decide.{ℕ_discrete}
use borrow.Author.Tests.{eq-eqb, ne_eqb}
use lib.Dec.{eqb}
use lib.ListN.{length, take, drop, length-drop}
use lib.Seq.{length-take-le}
use Rattle.candidate_bytes.specs.Candidate.{same}
use Rattle.byte_numbers.specs.models.Word.{number, Bytes, Word}

pub same_number : (xs ys : List ℕ) → length xs ≡ length ys → Bytes xs → Bytes ys → same xs ys ≡ eqb (number xs) (number ys)
same_number [] [] e p q = refl
same_number [] (y ∷ ys) e p q = absurd (omega arith)
same_number (x ∷ xs) [] e p q = absurd (omega arith)
same_number (x ∷ xs) (y ∷ ys) e p q = go (ℕ_discrete x y) (ℕ_discrete (number xs) (number ys)) (same_number xs ys (omega arith) p.1 q.1)
  where
    go : Dec (x ≡ y) → Dec (number xs ≡ number ys) → same xs ys ≡ eqb (number xs) (number ys) → (eqb x y && same xs ys) ≡ eqb (x + 256 * number xs) (y + 256 * number ys)
    go (no h) d ih = rw (ne_eqb x y h, ne_eqb (x + 256 * number xs) (y + 256 * number ys) (λ z. h (omega (arith, p.0, q.0))))
    go (yes h) (yes k) ih = rw (eq-eqb x y h, ih, eq-eqb (number xs) (number ys) k, eq-eqb (x + 256 * number xs) (y + 256 * number ys) (omega arith))
    go (yes h) (no k) ih = rw (eq-eqb x y h, ih, ne_eqb (number xs) (number ys) k, ne_eqb (x + 256 * number xs) (y + 256 * number ys) (λ z. k (omega arith)))

pub same_word : (w v : ℕ) (xs ys : List ℕ) → length xs ≡ length ys → Word w xs → Word v ys → same xs ys ≡ eqb w v
same_word w v xs ys e p q =
    same_number xs ys e p.small q.small ∙ sym (ap (λ (n : ℕ). eqb n v) p.value ∙ ap (λ (n : ℕ). eqb (number xs) n) q.value)

-- n bytes of each, compared as words
pub same_words : (n : ℕ) (a b : List ℕ) (j w v : ℕ) → j + n ≤ length a → j + n ≤ length b → Word w (take n (drop j a)) → Word v (take n (drop j b))
    → same (take n (drop j a)) (take n (drop j b)) ≡ eqb w v
same_words n a b j w v h k p q =
    let e : length (take n (drop j a)) ≡ length (take n (drop j b)) =
    length-take-le n (drop j a) (omega (arith, length-drop j a)) ∙ sym (length-take-le n (drop j b) (omega (arith, length-drop j b))) in
    same_word w v (take n (drop j a)) (take n (drop j b)) e p q
