-- The group of a candidate, by a map or by prefixes (document 01, Groups and pick; document 02, CR 7), and the instructions that finding it takes.
-- Assumes nothing.
use Rattle.std.specs.Prelude.{ℕ, ◌+◌, ◌*◌, Bool, cond, ◌||◌, List, eqb, length, get_or}
use Rattle.candidate_bytes.specs.Candidate.{family, address, mapped}
use Rattle.asmap_program.specs.Walk.{Walked}
use Rattle.asmap_walk_bits.specs.Walk.{walk_of}
use Rattle.netgroup.specs.declared.Grouping.{Grouping}
use Rattle.netgroup.specs.declared.Grouping.TheVariants.{Prefixes, OldPrefixes, Map}
use Rattle.netgroup.specs.declared.Grouped.{Grouped}

-- what numbers the groups of a call: its map, or none and then the prefixes, by "the new" numbering or by "the old" one
pub data Numbering : Type 0 where
  by_map : List ℕ → Numbering
  by_prefixes : Numbering
  by_old_prefixes : Numbering

-- how a call says which
abbrev pub numbering : Grouping → Numbering
numbering Prefixes = by_prefixes
numbering OldPrefixes = by_old_prefixes
numbering (Map m) = by_map m.now

-- an IPv4 address's first two bytes, which in the mapped form are bytes 12 and 13 of the address
abbrev pub prefix4 : List ℕ → ℕ
prefix4 c = 256 * get_or c 14 0 + get_or c 15 0

-- an IPv6 address's first four bytes, the first one highest
abbrev pub prefix6 : List ℕ → ℕ
prefix6 c = 256 * (256 * (256 * get_or c 2 0 + get_or c 3 0) + get_or c 4 0) + get_or c 5 0

-- the old numbering (document 01): the family decides, so a mapped address of family 6 goes by the rule for IPv6, which makes it 0
unfoldable pub old_prefix_group : List ℕ → ℕ
old_prefix_group c = cond (eqb (family c) 4) (prefix4 c) (prefix6 c)

-- "an IPv4 or mapped address" (document 02, CR 7)
unfoldable pub ipv4 : List ℕ → Bool
ipv4 c = eqb (family c) 4 || mapped c

-- the new numbering: "4,294,967,296 + 256 × a + b", a range to itself, since four bytes make no number so great
unfoldable pub prefix_group : List ℕ → ℕ
prefix_group c = cond (ipv4 c) (4294967296 + prefix4 c) (prefix6 c)

-- the defined walk of a candidate's 16 address bytes
abbrev pub walk_for : List ℕ → List ℕ → Walked
walk_for m c = walk_of m (address c) 128

-- with a map it is the number that the defined walk of the address ends with
abbrev pub group_of : Numbering → List ℕ → ℕ
group_of (by_map m) c = (walk_for m c).number
group_of by_prefixes c = prefix_group c
group_of by_old_prefixes c = old_prefix_group c

-- the count of that walk: the instructions that it reads whole; 0 without a map
abbrev pub count_of : Numbering → List ℕ → ℕ
count_of (by_map m) c = length (walk_for m c).read
count_of by_prefixes c = 0
count_of by_old_prefixes c = 0

abbrev pub grouped_of : Numbering → List ℕ → Grouped
grouped_of n c = record { group = group_of n c; count = count_of n c }
