-- A candidate (document 01, Groups and pick): a peer's address as 20 bytes.
-- Assumes nothing.
use Rattle.std.specs.Prelude.{ℕ, Bool, true, false, ◌&&◌, ◌||◌, List, [], ◌∷◌, eqb, length, take, drop, get_or}

-- equality of candidates is equality of their bytes, each of them
abbrev pub same : List ℕ → List ℕ → Bool
same [] [] = true
same [] (y ∷ ys) = false
same (x ∷ xs) [] = false
same (x ∷ xs) (y ∷ ys) = eqb x y && same xs ys

-- the first byte
abbrev pub family : List ℕ → ℕ
family c = get_or c 0 0

-- the 16 bytes after the first two; the last two are the port
abbrev pub address : List ℕ → List ℕ
address c = take 16 (drop 2 c)

-- ten zero bytes, ff ff
abbrev pub mapped_front : List ℕ
mapped_front = 0 ∷ 0 ∷ 0 ∷ 0 ∷ 0 ∷ 0 ∷ 0 ∷ 0 ∷ 0 ∷ 0 ∷ 255 ∷ 255 ∷ []

-- an IPv4 address in its mapped form: that front, then its four bytes
unfoldable pub mapped : List ℕ → Bool
mapped c = same (take 12 (drop 2 c)) mapped_front

-- what 13 leaves: 20 bytes, the second of them zero, of family 6, or of family 4 in the mapped form
unfoldable pub valid : List ℕ → Bool
valid c = eqb (length c) 20 && (eqb (get_or c 1 0) 0 && (eqb (family c) 6 || (eqb (family c) 4 && mapped c)))
