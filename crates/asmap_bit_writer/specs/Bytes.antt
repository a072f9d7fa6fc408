-- Bits put into bytes (document 01, Codes: a map's bits run from the lowest bit of each byte upward). Assumes nothing.
use Rattle.std.specs.Prelude.{ℕ, zero, suc, ◌+◌, ◌/◌, List, [], ◌∷◌, length, take, drop}
use Rattle.asmap_codes.specs.Bits.{word}

-- n bytes of bits, eight to a byte, the first bit lowest; past the bits' end zeros.
abbrev pub to_bytes : ℕ → List ℕ → List ℕ
to_bytes zero bs = []
to_bytes (suc n) bs = word (take 8 bs) ∷ to_bytes n (drop 8 bs)

-- How many bytes hold n bits: as few as can.
abbrev pub bytes_for : ℕ → ℕ
bytes_for n = (n + 7) / 8

-- The bytes of bits (document 01, Unpack and pack): as few as hold them, the last padded with zeros; none for no bits.
unfoldable pub bytes_of : List ℕ → List ℕ
bytes_of bs = to_bytes (bytes_for (length bs)) bs
