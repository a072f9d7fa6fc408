-- The listing as a caller reads it off the bytes written (document 02, CR 1): "records rise by address", "every address lies in just one, and that
-- one carries the walk's number".
-- Assumes nothing.
use Rattle.std.specs.Prelude.{ℕ, ◌+◌, ◌-◌, ◌*◌, ◌%◌, ◌^◌, ◌≤◌, ◌<◌, ◌≡◌, List, length, get_or}
use Rattle.asmap_check.specs.Check.{check_of}
use Rattle.demand_statements.specs.Walked.{little}
use Rattle.asmap_program.specs.Verdict.{Accepted}

-- the eight bytes from byte k on, the highest first
abbrev pub eight : List ℕ → ℕ → ℕ
eight o k =
    72057594037927936 * get_or o k 0 + 281474976710656 * get_or o (k + 1) 0 + 1099511627776 * get_or o (k + 2) 0 + 4294967296 * get_or o (k + 3) 0
    + 16777216 * get_or o (k + 4) 0 + 65536 * get_or o (k + 5) 0 + 256 * get_or o (k + 6) 0 + get_or o (k + 7) 0

-- the sixteen bytes from byte k on: an address
abbrev pub address : List ℕ → ℕ → ℕ
address o k = eight o k * 2 ^ 64 + eight o (k + 8)

-- Record number j of the bytes o: its first address, its prefix length, the first address behind it, and its number.
abbrev pub first : List ℕ → ℕ → ℕ
first o j = address o (24 * j)

abbrev pub prefix : List ℕ → ℕ → ℕ
prefix o j = get_or o (24 * j + 16) 0

abbrev pub past : List ℕ → ℕ → ℕ
past o j = first o j + 2 ^ (128 - prefix o j)

abbrev pub number : List ℕ → ℕ → ℕ
number o j = little o (24 * j + 20)

-- The n records at the front of o, of a map for addresses of w bits: the first begins at address 0, each other where the one before it ends, the last
-- ends at 2 ^ 128. No prefix is longer than w bits, and an address has zeros past its prefix, so past its first w bits too: at 32 past its first four
-- bytes.
pub record Tiled (w : ℕ) (o : List ℕ) (n : ℕ) : Type 0 where
  pub some : 1 ≤ n
  pub start : first o 0 ≡ 0
  pub next : (j : ℕ) → j + 1 < n → first o (j + 1) ≡ past o j
  pub end : past o (n - 1) ≡ 2 ^ 128
  pub short : (j : ℕ) → j < n → prefix o j ≤ w
  pub zeros : (j : ℕ) → j < n → first o j % 2 ^ (128 - prefix o j) ≡ 0
  pub blank : (j : ℕ) → j < n → first o j % 2 ^ (128 - w) ≡ 0

-- The address a lies in just one of the n records, and that one has the number x. An address of four bytes is read as sixteen, with zeros behind.
pub record InOne (a o : List ℕ) (n x : ℕ) : Type 0 where
  pub place : ℕ
  pub inside : place < n
  pub from : first o place ≤ address a 0
  pub below : address a 0 < past o place
  pub carries : number o place ≡ x
  pub only : (j : ℕ) → j < n → first o j ≤ address a 0 → address a 0 < past o j → j ≡ place

-- A map was listed into o and walked by the address a: the bytes written are records that tile all addresses, and the one in which a lies has the
-- walk's number, x.
pub record ListedWalk (w : ℕ) (a o : List ℕ) (written x : ℕ) : Type 0 where
  pub records : ℕ
  pub whole : written ≡ 24 * records
  pub tiled : Tiled w o records
  pub one : InOne a o records x

-- A caller who asks how many bytes a listing needs, and then lists the map into o: as many are written, and an output that has as many is never
-- refused, one that has fewer always, with 14.
pub record ListedWithRoom (m : List ℕ) (w : ℕ) (o : List ℕ) (r needed written : ℕ) : Type 0 where
  pub exact : r ≡ 0 → written ≡ needed
  pub answered : (c d : ℕ) → check_of m w ≡ Accepted c d → needed ≤ length o → r ≡ 0
  pub no_room : (c d : ℕ) → check_of m w ≡ Accepted c d → length o < needed → r ≡ 14
