-- The bits of a map (document 01, Codes), and numbers written in bits. A bit is 0 or 1; bits are a list, the first bit first.
-- Assumes nothing.
use Rattle.std.specs.Prelude.{ℕ, zero, suc, ◌+◌, ◌*◌, ◌/◌, ◌%◌, ◌^◌, Bool, true, false, List, [], ◌∷◌, ◌++◌, length}

-- The n lowest bits of x, lowest first.
abbrev pub low : ℕ → ℕ → List ℕ
low zero x = []
low (suc n) x = x % 2 ∷ low n (x / 2)

-- The n lowest bits of x, highest first.
abbrev pub high : ℕ → ℕ → List ℕ
high zero x = []
high (suc n) x = x / 2 ^ n % 2 ∷ high n x

-- The bits of a map (document 01, Codes): byte after byte, and in each byte from the lowest bit up.
abbrev pub map_bits : List ℕ → List ℕ
map_bits [] = []
map_bits (x ∷ xs) = low 8 x ++ map_bits xs

-- The number that bits write, the highest first, as the size bits of a code do (document 01, Codes).
abbrev pub number : List ℕ → ℕ
number [] = 0
number (b ∷ bs) = b * 2 ^ length bs + number bs

-- The word that holds bits, the first bit lowest.
abbrev pub word : List ℕ → ℕ
word [] = 0
word (b ∷ bs) = b + 2 * word bs

-- No bit is 1 (document 01, Check: what may follow the final RETURN).
abbrev pub all_zero : List ℕ → Bool
all_zero [] = true
all_zero (zero ∷ bs) = all_zero bs
all_zero (suc b ∷ bs) = false
