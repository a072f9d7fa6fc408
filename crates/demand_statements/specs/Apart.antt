-- Request 7, IPv4 prefixes with a number range to themselves (document 02, CR 7), as a caller reads it off the groups of candidates, rows of 20
-- bytes, without a map.
-- Assumes nothing.
use Rattle.std.specs.Prelude.{ℕ, ◌+◌, ◌*◌, ◌≡◌, ◌≢◌, true, false, List, get_or}
use Rattle.demand_statements.specs.Picked.{ipv4_at}

-- The groups g of c and h of d: no IPv4 address shares one with an IPv6 address that is not mapped; two IPv4 addresses, mapped or not, share one
-- exactly where they share their first two bytes.
pub record Apart (c d : List ℕ) (g h : ℕ) : Type 0 where
  pub never_shared : ipv4_at c 0 ≡ true → ipv4_at d 0 ≡ false → g ≢ h
  pub shares : ipv4_at c 0 ≡ true → ipv4_at d 0 ≡ true → g ≡ h → (get_or c 14 0 ≡ get_or d 14 0) × (get_or c 15 0 ≡ get_or d 15 0)
  pub shared : ipv4_at c 0 ≡ true → ipv4_at d 0 ≡ true → get_or c 14 0 ≡ get_or d 14 0 → get_or c 15 0 ≡ get_or d 15 0 → g ≡ h

-- The group of c by the old numbering and by the new, for whoever kept old ones: of family 4 it moves into the range; a mapped one of family 6 had 0,
-- which says nothing of its address; any other stays.
pub record Renumbered (c : List ℕ) (old new : ℕ) : Type 0 where
  pub family_4 : get_or c 0 0 ≡ 4 → new ≡ 4294967296 + old
  pub mapped : get_or c 0 0 ≡ 6 → ipv4_at c 0 ≡ true → (old ≡ 0) × (new ≡ 4294967296 + (256 * get_or c 14 0 + get_or c 15 0))
  pub others : ipv4_at c 0 ≡ false → new ≡ old
