-- The map of a function of addresses (document 02, CR 8): "Where all addresses of a subtree have one number, … RETURN. Elsewhere … JUMP, the half
-- with bit 0, the half with bit 1." A subtree is its prefix, the number that its address bits so far make, and how many bits are left.
-- Assumes nothing.
use Rattle.std.specs.Prelude.{ℕ, zero, suc, ◌+◌, ◌*◌, Bool, true, false, List, ◌++◌, eqb, length}
use Rattle.asmap_program.specs.Map.{RETURN, JUMP}
use Rattle.asmap_codes.specs.Encode.{instruction_bits}

-- A program of RETURN and JUMP alone: a number, or two halves.
pub data Shape : Type 0 where
  Leaf : ℕ → Shape
  Fork : Shape → Shape → Shape

-- The first where the test holds, else the second.
unfoldable pub pick : Bool → Shape → Shape → Shape
pick true t u = t
pick false t u = u

-- Two halves put together: where both are one number, and the same, the whole is that number.
abbrev pub join : Shape → Shape → Shape
join (Leaf a) (Leaf b) = pick (eqb a b) (Leaf a) (Fork (Leaf a) (Leaf b))
join (Leaf a) (Fork t u) = Fork (Leaf a) (Fork t u)
join (Fork t u) v = Fork (Fork t u) v

-- The subtree of the prefix p with k address bits left, f being the number of each address. That it is one number exactly "where all addresses of a
-- subtree have one number" is a law (`all-leaf`, `leaf_all`).
unfoldable pub shape : (ℕ → ℕ) → ℕ → ℕ → Shape
shape f zero p = Leaf (f p)
shape f (suc k) p = join (shape f k (2 * p)) (shape f k (2 * p + 1))

-- What is written: RETURN and its number; or JUMP over the half with bit 0, that half, and the half with bit 1.
unfoldable pub bits_of : Shape → List ℕ
bits_of (Leaf n) = instruction_bits RETURN n
bits_of (Fork t u) = instruction_bits JUMP (length (bits_of t)) ++ (bits_of t ++ bits_of u)
