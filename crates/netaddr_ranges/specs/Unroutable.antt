-- The filter's answer for an address (document 01, Filters): whether it is unroutable, by the ranges in the paper's order.
-- Assumes nothing.
use Rattle.std.specs.Prelude.{ℕ, zero, suc, ◌+◌, ◌-◌, Bool, true, false, cond, not, ◌&&◌, ◌||◌, List, [], ◌∷◌, eqb}
use Rattle.netaddr_ranges.specs.Prefix.{Range, within, byte}
use Rattle.netaddr_ranges.specs.Ranges.{Row, Follows, routable, unroutable, by, unless, ipv4_ranges, ipv6_rows}

-- an address lies in one of the ranges
abbrev pub in_some : List Range → List ℕ → Bool
in_some [] a = false
in_some (r ∷ rs) a = within r a || in_some rs a

-- an IPv4 address of four bytes is unroutable
unfoldable pub unroutable4 : List ℕ → Bool
unroutable4 a = in_some ipv4_ranges a

-- the IPv4 address that an address holds from byte i on
abbrev pub held : ℕ → List ℕ → List ℕ
held i a = byte i a ∷ byte (i + 1) a ∷ byte (i + 2) a ∷ byte (i + 3) a ∷ []

-- n bytes from byte i on are zero
unfoldable pub zeros : ℕ → ℕ → List ℕ → Bool
zeros i zero a = true
zeros i (suc n) a = zeros i n a && eqb (byte (i + n) a) 0

-- an address of a range is unroutable, by what follows from that range
abbrev pub verdict : Follows → List ℕ → Bool
verdict routable a = false
verdict unroutable a = true
verdict (by i) a = unroutable4 (held i a)
verdict (unless first last i) a = not (zeros first (last + 1 - first) a && not (unroutable4 (held i a)))

-- The first row whose range holds the address decides; where there is none the address is routable.
unfoldable pub decided : List Row → List ℕ → Bool
decided [] a = false
decided (r ∷ rs) a = cond (within r.range a) (verdict r.follows a) (decided rs a)

-- an address of 16 bytes is unroutable
unfoldable pub unroutable16 : List ℕ → Bool
unroutable16 a = decided ipv6_rows a
