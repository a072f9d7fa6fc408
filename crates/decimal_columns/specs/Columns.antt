-- Numbers in decimal, set flush right ("right-aligned") in columns (document 02, CR 4). A column is given by how many stand to its right.
-- Assumes nothing.
use Rattle.std.specs.Prelude.{ℕ, zero, suc, ◌+◌, ◌*◌, ◌-◌, ◌/◌, ◌%◌, ◌^◌, cond, List, [], ◌∷◌, eqb, ltb}

-- the digit of n that stands for tens to the k, as a byte: 48 is the digit 0
unfoldable pub digit_byte : ℕ → ℕ → ℕ
digit_byte n k = 48 + n / 10 ^ k % 10

-- the column with k to its right: the last has a digit always, another a space, 32, where n has none so far left
unfoldable pub column_byte : ℕ → ℕ → ℕ
column_byte n zero = digit_byte n 0
column_byte n (suc k) = cond (ltb n (10 ^ suc k)) 32 (digit_byte n (suc k))

-- so many columns, the leftmost first
unfoldable pub flush_right : ℕ → ℕ → List ℕ
flush_right zero n = []
flush_right (suc k) n = column_byte n k ∷ flush_right k n

-- how a reader takes columns, from the left on, with v read so far: a space changes nothing, a digit goes behind v
unfoldable pub read_on : ℕ → ℕ → ℕ
read_on v b = cond (eqb b 32) v (10 * v + (b - 48))

unfoldable pub read_from : ℕ → List ℕ → ℕ
read_from v [] = v
read_from v (b ∷ bs) = read_from (read_on v b) bs

-- the number that columns show
abbrev pub shown : List ℕ → ℕ
shown bs = read_from 0 bs
