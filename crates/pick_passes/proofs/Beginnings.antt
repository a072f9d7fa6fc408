-- A list that is the beginning of another: itself, one put behind, a beginning of a beginning.
-- Assumes nothing.
use mathlib.Core.Path.{◌≡◌, ◌∙◌, refl, sym, ap}
use mathlib.Core.List.{List, [], ◌∷◌, ◌++◌, append_assoc}
use Prim.Native.Nat.{ℕ, ◌≤◌}
use native.Mathlib.Omega.{arith}
use lib.ListN.{length, take, length-append}
use lib.Seq.{take-append_seam}

-- xs are the first of ys
pub record Begins (xs ys : List ℕ) : Type 0 where
  pub more : List ℕ
  pub whole : ys ≡ xs ++ more

pub append-nil : (xs : List ℕ) → xs ++ [] ≡ xs
append-nil [] = refl
append-nil (x ∷ xs) = ap (λ (l : List ℕ). x ∷ l) (append-nil xs)

pub begins_self : (xs : List ℕ) → Begins xs xs
begins_self xs = record { more = []; whole = sym (append-nil xs) }

pub begins_snoc : (xs : List ℕ) (x : ℕ) → Begins xs (xs ++ (x ∷ []))
begins_snoc xs x = record { more = x ∷ []; whole = refl }

pub begins_trans : (xs ys zs : List ℕ) → Begins xs ys → Begins ys zs → Begins xs zs
begins_trans xs ys zs a b = record { more = a.more ++ b.more; whole = b.whole ∙ ap (λ (l : List ℕ). l ++ b.more) a.whole ∙ append_assoc xs a.more b.more }

pub begins_length : (xs ys : List ℕ) → Begins xs ys → length xs ≤ length ys
begins_length xs ys a = omega (arith, ap length a.whole, length-append xs a.more)

pub begins_take : (xs ys : List ℕ) → Begins xs ys → take (length xs) ys ≡ xs
begins_take xs ys a = ap (λ (l : List ℕ). take (length xs) l) a.whole ∙ take-append_seam xs a.more
