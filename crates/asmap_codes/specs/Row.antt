-- The four rows of the table in document 01, Codes: a least value and sizes for each kind of operand; which values and how
-- many bits a row's codes have. Assumes nothing.
use Rattle.std.specs.Prelude.{ℕ, zero, suc, ◌+◌, ◌-◌, ◌^◌, ◌≤◌, ◌<◌, min, max, Bool, ◌&&◌, List, [], ◌∷◌, leb, ltb, length}

-- A line of the table: the least value, and the sizes in order.
pub record Row : Type 0 where
  pub least : ℕ
  pub sizes : List ℕ

-- Opcodes (the table's first line).
abbrev pub type_row : Row
type_row = record { least = 0; sizes = 0 ∷ 0 ∷ 1 ∷ [] }

-- AS numbers (its second line).
abbrev pub asn_row : Row
asn_row = record { least = 1; sizes = 15 ∷ 16 ∷ 17 ∷ 18 ∷ 19 ∷ 20 ∷ 21 ∷ 22 ∷ 23 ∷ 24 ∷ [] }

-- MATCH operands (its third line).
abbrev pub match_row : Row
match_row = record { least = 2; sizes = 1 ∷ 2 ∷ 3 ∷ 4 ∷ 5 ∷ 6 ∷ 7 ∷ 8 ∷ [] }

-- JUMP operands (its fourth line).
abbrev pub jump_row : Row
jump_row = record {
  least = 17;
  sizes = 5 ∷ 6 ∷ 7 ∷ 8 ∷ 9 ∷ 10 ∷ 11 ∷ 12 ∷ 13 ∷ 14 ∷ 15 ∷ 16 ∷ 17 ∷ 18 ∷ 19 ∷ 20 ∷ 21 ∷ 22 ∷ 23 ∷ 24 ∷ 25 ∷ 26 ∷ 27 ∷ 28 ∷ 29 ∷ 30 ∷ [];
}

-- The table, line by line.
abbrev pub rows : List Row
rows = type_row ∷ asn_row ∷ match_row ∷ jump_row ∷ []

-- The row of an opcode's operand (document 01, Codes): an AS number for RETURN 0 and DEFAULT 3, its own for JUMP 1 and MATCH 2.
abbrev pub operand_row : ℕ → Row
operand_row zero = asn_row
operand_row (suc zero) = jump_row
operand_row (suc (suc zero)) = match_row
operand_row (suc (suc (suc n))) = asn_row

-- How many values sizes have: 2 ^ size for each.
abbrev pub span : List ℕ → ℕ
span [] = 0
span (s ∷ ss) = 2 ^ s + span ss

-- The table's last column: the greatest value of a row.
abbrev pub greatest : Row → ℕ
greatest row = row.least + span row.sizes - 1

-- A value that the row has (document 01, "What a call hands back": out of its range is 15).
abbrev pub in_range : Row → ℕ → Bool
in_range row v = leb row.least v && ltb v (row.least + span row.sizes)

-- How many bits the shortest code of sizes has: a bit before each size but the last, then the size's own.
abbrev pub shortest : List ℕ → ℕ
shortest [] = 0
shortest (s ∷ []) = s
shortest (s ∷ t ∷ ss) = suc (min s (shortest (t ∷ ss)))

-- The longest, in the same way.
abbrev pub longest : List ℕ → ℕ
longest [] = 0
longest (s ∷ []) = s
longest (s ∷ t ∷ ss) = suc (max s (longest (t ∷ ss)))

-- What the laws of reading and writing and the code ask of a row, and all that they ask: at least two sizes, so that a code
-- has a bit; at most 26; values within 31 bits; codes of at most 55 bits.
pub record Fit (row : Row) : Type 0 where
  pub many : 1 < length row.sizes
  pub few : length row.sizes ≤ 26
  pub small : row.least + span row.sizes ≤ 2 ^ 31
  pub short : longest row.sizes ≤ 55
