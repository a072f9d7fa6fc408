-- Records of prefixes (document 02, CR 1): 24 bytes for each piece. Assumes nothing.
use Rattle.std.specs.Prelude.{ℕ, ◌/◌, ◌%◌, ◌^◌, List, [], ◌∷◌, ◌++◌}
use Rattle.byte_numbers.specs.Numbers.{big8, bytes4}
use Rattle.prefix_records.specs.Tiling.{Piece, first_of}

-- An address of 128 bits as 16 bytes, the highest first.
abbrev pub address_bytes : ℕ → List ℕ
address_bytes x = big8 (x / 2 ^ 64) ++ big8 (x % 2 ^ 64)

-- The record of a piece: 16 address bytes with zeros past the prefix, the prefix length in one byte, three zeros, the number as four bytes,
-- little-endian. Addresses of fewer bits, as of four bytes, stand in the first of the 16.
abbrev pub record_of : Piece → List ℕ
record_of p = address_bytes (first_of 128 p) ++ (p.length ∷ 0 ∷ 0 ∷ 0 ∷ []) ++ bytes4 p.number

-- The records of pieces, one after the other; no header.
abbrev pub records_of : List Piece → List ℕ
records_of [] = []
records_of (p ∷ ps) = record_of p ++ records_of ps
