-- The ranges of document 01, Filters, in its order: thirteen of IPv4, and eighteen rows of IPv6 with what follows from each.
-- Assumes nothing.
use Rattle.std.specs.Prelude.{ℕ, List, [], ◌∷◌, ◌++◌}
use Rattle.netaddr_ranges.specs.Prefix.{Range, ipv4, ipv6}

-- IPv4 unroutable
abbrev pub ipv4_ranges : List Range
ipv4_ranges =
    -- 0/8
    ipv4 0 0 0 0 8
    -- 10/8
    ∷ ipv4 10 0 0 0 8
    -- 100.64/10
    ∷ ipv4 100 64 0 0 10
    -- 127/8
    ∷ ipv4 127 0 0 0 8
    -- 169.254/16
    ∷ ipv4 169 254 0 0 16
    -- 172.16/12
    ∷ ipv4 172 16 0 0 12
    -- 192.0.2/24
    ∷ ipv4 192 0 2 0 24
    -- 192.168/16
    ∷ ipv4 192 168 0 0 16
    -- 198.18/15
    ∷ ipv4 198 18 0 0 15
    -- 198.51.100/24
    ∷ ipv4 198 51 100 0 24
    -- 203.0.113/24
    ∷ ipv4 203 0 113 0 24
    -- 224/4
    ∷ ipv4 224 0 0 0 4
    -- 240/4
    ∷ ipv4 240 0 0 0 4
    ∷ []

-- What the paper says of the addresses of an IPv6 range.
pub data Follows : Type 0 where
  routable : Follows
  unroutable : Follows
  -- goes by the IPv4 whose first byte stands at this place
  by : ℕ → Follows
  -- unroutable unless the bytes from the first place to the second are zero and the IPv4 at the third is routable
  unless : ℕ → ℕ → ℕ → Follows

pub record Row : Type 0 where
  pub range : Range
  pub follows : Follows

abbrev pub row : List ℕ → ℕ → Follows → Row
row gs n f = record { range = ipv6 gs n; follows = f }

-- Loopback, link-local, unique local, multicast: unroutable, whatever else the address holds.
abbrev pub scope_rows : List Row
scope_rows =
    -- ::1
    row (0 ∷ 0 ∷ 0 ∷ 0 ∷ 0 ∷ 0 ∷ 0 ∷ 1 ∷ []) 128 unroutable
    -- fe80::/10
    ∷ row (0xfe80 ∷ []) 10 unroutable
    -- fd00::/8
    ∷ row (0xfd00 ∷ []) 8 unroutable
    -- ff00::/8
    ∷ row (0xff00 ∷ []) 8 unroutable
    ∷ []

-- Documentation, ORCHID, benchmarks and discard: likewise.
abbrev pub special_rows : List Row
special_rows =
    -- 2001:db8::/32
    row (0x2001 ∷ 0xdb8 ∷ []) 32 unroutable
    -- 3fff::/20
    ∷ row (0x3fff ∷ []) 20 unroutable
    -- 2001:10::/28
    ∷ row (0x2001 ∷ 0x10 ∷ []) 28 unroutable
    -- 2001:20::/28
    ∷ row (0x2001 ∷ 0x20 ∷ []) 28 unroutable
    -- 2001:2::/48
    ∷ row (0x2001 ∷ 0x2 ∷ []) 48 unroutable
    -- 100::/64
    ∷ row (0x100 ∷ []) 64 unroutable
    ∷ []

-- Tunnels and translations, which hold an IPv4 address.
abbrev pub embedded_rows : List Row
embedded_rows =
    -- 2001::/32
    row (0x2001 ∷ []) 32 unroutable
    -- 2002::/16 unless bytes 6 to 15 are zero and bytes 2 to 5 routable
    ∷ row (0x2002 ∷ []) 16 (unless 6 15 2)
    -- 64:ff9b::/96 by the last four bytes
    ∷ row (0x64 ∷ 0xff9b ∷ []) 96 (by 12)
    -- ::ffff:0:0:0/96 by the last four bytes
    ∷ row (0 ∷ 0 ∷ 0 ∷ 0 ∷ 0xffff ∷ []) 96 (by 12)
    -- ::/96 by the last four bytes
    ∷ row [] 96 (by 12)
    -- 64:ff9b:1::/48 unless bytes 6 to 11 are zero and the last four routable
    ∷ row (0x64 ∷ 0xff9b ∷ 0x1 ∷ []) 48 (unless 6 11 12)
    ∷ []

-- All eighteen: the two that are asked first, then the three groups.
abbrev pub ipv6_rows : List Row
ipv6_rows =
    -- fc00::/8 is routable
    row (0xfc00 ∷ []) 8 routable
    -- ::ffff:0:0/96 goes by its IPv4
    ∷ row (0 ∷ 0 ∷ 0 ∷ 0 ∷ 0 ∷ 0xffff ∷ []) 96 (by 12)
    ∷ (scope_rows ++ (special_rows ++ embedded_rows))
