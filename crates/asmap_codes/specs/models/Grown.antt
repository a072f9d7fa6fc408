-- Sizes that grow by one, and the bits before a size: what the decoder and the writer go by to read and write a code at once.
-- No promise speaks of these. Assumes nothing.
use Rattle.std.specs.Prelude.{ℕ, zero, suc, ◌+◌, Bool, true, false, ◌&&◌, List, [], ◌∷◌, leb, ltb}

-- Sizes of which none is more than one above the size before it.
abbrev pub slow : List ℕ → Bool
slow [] = true
slow (s ∷ []) = true
slow (s ∷ t ∷ ss) = leb t (suc s) && slow (t ∷ ss)

-- n sizes that grow by one.
abbrev pub grown : ℕ → ℕ → List ℕ
grown s zero = []
grown s (suc n) = s ∷ grown (suc s) n

-- How many zeros stop at a size of a row, by whether a size comes after it: one, but none at the last.
abbrev pub stop_if : Bool → ℕ
stop_if true = 1
stop_if false = 0

-- The same for the size after so many ones, of a row of n sizes.
abbrev pub stops : ℕ → ℕ → ℕ
stops ones n = stop_if (ltb (ones + 1) n)
