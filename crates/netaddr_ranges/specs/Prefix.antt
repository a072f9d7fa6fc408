-- Ranges of addresses (document 01, Filters): an address and how many of its first bits count, as 10/8 or fe80::/10.
-- An address is its bytes, a list. Assumes nothing.
use Rattle.std.specs.Prelude.{ℕ, zero, suc, ◌-◌, ◌/◌, ◌%◌, ◌^◌, Bool, true, cond, ◌&&◌, List, [], ◌∷◌, eqb, get_or}

-- byte i of an address, counted from 0
abbrev pub byte : ℕ → List ℕ → ℕ
byte i a = get_or a i 0

-- the first k bytes of two addresses agree
abbrev pub same_bytes : ℕ → List ℕ → List ℕ → Bool
same_bytes zero p a = true
same_bytes (suc k) p a = same_bytes k p a && eqb (byte k a) (byte k p)

-- the n highest bits of two bytes agree: the 8 - n bits below are divided away
abbrev pub same_top : ℕ → ℕ → ℕ → Bool
same_top n p x = eqb (x / 2 ^ (8 - n)) (p / 2 ^ (8 - n))

-- The first n bits of two addresses agree, counted from the highest of each byte: n / 8 whole bytes, and of the byte after them
-- the n % 8 highest bits where n is no multiple of 8.
abbrev pub same_bits : ℕ → List ℕ → List ℕ → Bool
same_bits n p a =
    cond (eqb (n % 8) 0) (same_bytes (n / 8) p a)
    (same_bytes (n / 8) p a && same_top (n % 8) (byte (n / 8) p) (byte (n / 8) a))

-- the first address of a range and the number of bits that all of its addresses share with it
pub record Range : Type 0 where
  pub first : List ℕ
  pub bits : ℕ

-- an address lies in a range
abbrev pub within : Range → List ℕ → Bool
within r a = same_bits r.bits r.first a

-- a.b.c.d/n
abbrev pub ipv4 : ℕ → ℕ → ℕ → ℕ → ℕ → Range
ipv4 a b c d n = record { first = a ∷ b ∷ c ∷ d ∷ []; bits = n }

-- The bytes of k groups of sixteen bits, each group's high byte first. Groups that are not given are zero, as those for which
-- the last `::` of a prefix stands.
abbrev pub groups : ℕ → List ℕ → List ℕ
groups zero gs = []
groups (suc k) [] = 0 ∷ 0 ∷ groups k []
groups (suc k) (g ∷ gs) = g / 256 ∷ g % 256 ∷ groups k gs

-- the range of IPv6 addresses, 16 bytes, with these first groups and this length
abbrev pub ipv6 : List ℕ → ℕ → Range
ipv6 gs n = record { first = groups 8 gs; bits = n }
