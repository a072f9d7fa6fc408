-- Numbers in bytes: of four bytes, little-endian, as records have them (document 01, Unpack and pack), and of eight, the highest first, as addresses
-- have them (document 01, Codes: address bits run from the highest down). Assumes nothing.
use Rattle.std.specs.Prelude.{ℕ, ◌+◌, ◌*◌, ◌/◌, ◌%◌, List, [], ◌∷◌, get_or}

-- A number as four bytes, little-endian.
abbrev pub bytes4 : ℕ → List ℕ
bytes4 x = x % 256 ∷ x / 256 % 256 ∷ x / 65536 % 256 ∷ x / 16777216 % 256 ∷ []

-- The number that the four bytes from byte k on are, little-endian.
abbrev pub number4 : List ℕ → ℕ → ℕ
number4 l k = get_or l k 0 + 256 * get_or l (k + 1) 0 + 65536 * get_or l (k + 2) 0 + 16777216 * get_or l (k + 3) 0

-- A number as eight bytes, the highest first.
abbrev pub big8 : ℕ → List ℕ
big8 x =
    x / 72057594037927936 % 256
    ∷ x / 281474976710656 % 256
    ∷ x / 1099511627776 % 256
    ∷ x / 4294967296 % 256
    ∷ x / 16777216 % 256
    ∷ x / 65536 % 256
    ∷ x / 256 % 256
    ∷ x % 256
    ∷ []
