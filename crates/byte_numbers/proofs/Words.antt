-- Four and eight bytes of a row, one by one.
-- Assumes nothing.
use mathlib.Core.Path.{◌≡◌, refl}
use mathlib.Core.List.{List, [], ◌∷◌}
use Prim.Native.Nat.{ℕ, ◌+◌, ◌≤◌, ◌<◌}
use native.Mathlib.Omega.{arith}
use native.Mathlib.Numerals.{add-one}
use lib.ListN.{length, take, drop, get_or}
use lib.Seq.{drop-cons}

-- the byte at a place, and those after it
pub next : (l : List ℕ) (i j : ℕ) → j ≡ i + 1 → i < length l → drop i l ≡ get_or l i 0 ∷ drop j l
next l i j e h = rw (e, add-one i) (drop-cons l i 0 h)

-- the bytes of half a word, and of a word
pub half-bytes : (l : List ℕ) (i : ℕ) → i + 4 ≤ length l → take 4 (drop i l) ≡ (get_or l i 0 ∷ get_or l (i + 1) 0 ∷ get_or l (i + 2) 0 ∷ get_or l (i + 3) 0 ∷ [])
half-bytes l i h = rw (
  next l i (i + 1) refl (omega arith),
  next l (i + 1) (i + 2) (omega arith) (omega arith),
  next l (i + 2) (i + 3) (omega arith) (omega arith),
  next l (i + 3) (i + 4) (omega arith) (omega arith),
)

pub word_bytes : (l : List ℕ) (i : ℕ) → i + 8 ≤ length l
    → take 8 (drop i l) ≡ (get_or l i 0 ∷ get_or l (i + 1) 0 ∷ get_or l (i + 2) 0 ∷ get_or l (i + 3) 0 ∷ get_or l (i + 4) 0 ∷ get_or l (i + 5) 0 ∷ get_or l (i + 6) 0 ∷ get_or l (i + 7) 0 ∷ [])
word_bytes l i h = rw (
  next l i (i + 1) refl (omega arith),
  next l (i + 1) (i + 2) (omega arith) (omega arith),
  next l (i + 2) (i + 3) (omega arith) (omega arith),
  next l (i + 3) (i + 4) (omega arith) (omega arith),
  next l (i + 4) (i + 5) (omega arith) (omega arith),
  next l (i + 5) (i + 6) (omega arith) (omega arith),
  next l (i + 6) (i + 7) (omega arith) (omega arith),
  next l (i + 7) (i + 8) (omega arith) (omega arith),
)
