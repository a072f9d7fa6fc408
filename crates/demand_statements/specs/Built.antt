-- Request 8, a map built from prefixes, as a caller reads it (document 02, CR 8): which lists are built from, which numbers the call answers and when,
-- that a refused call writes nothing, and what is so of the bytes written. l are the record bytes, `given` the number for all other addresses, w the
-- width; r is the answer; what is lent stands at entry first, at exit second. The fields of record j are read as in a listing.
-- Assumes nothing.
use Rattle.std.specs.Prelude.{ℕ, ◌+◌, ◌-◌, ◌*◌, ◌/◌, ◌%◌, ◌^◌, ◌≤◌, ◌<◌, ◌≡◌, ◌⊎◌, ◌≢◌, List, length, drop, get_or}
use Rattle.asmap_program.specs.declared.Kind.TheVariants.{Returned}
use Rattle.asmap_check.specs.Check.{check_of}
use Rattle.asmap_walk_bits.specs.Walk.{walk_of}
use Rattle.asmap_records.specs.Output.{Made}
use Rattle.asmap_build.specs.Build.{build_at}
use Rattle.demand_statements.specs.Listed.{address, first, prefix, past, number}
use Rattle.asmap_program.specs.Verdict.{Accepted}

-- A number from 1 to 33,521,664.
abbrev pub InRange : ℕ → Type 0
InRange n = (1 ≤ n) × (n ≤ 33521664)

-- A list of n records that may be built from: no prefix longer than the width, three zeros behind its length, no ones past it; each begins behind the
-- one before it; every number in range, the given one too.
pub record Right (l : List ℕ) (given w : ℕ) : Type 0 where
  pub whole : length l % 24 ≡ 0
  pub short : (j : ℕ) → j < length l / 24 → prefix l j ≤ w
  pub zeros : (j : ℕ) → j < length l / 24 → (get_or l (24 * j + 17) 0 ≡ 0) × (get_or l (24 * j + 18) 0 ≡ 0) × (get_or l (24 * j + 19) 0 ≡ 0)
  pub clean : (j : ℕ) → j < length l / 24 → first l j % 2 ^ (128 - prefix l j) ≡ 0
  pub behind : (j : ℕ) → j + 1 < length l / 24 → past l j ≤ first l (j + 1)
  pub numbers : (j : ℕ) → j < length l / 24 → InRange (number l j)
  pub others : InRange given

-- The call: 18 exactly for a width that is neither 32 nor 128; then 21 or 22 exactly for a list that is not right, 21 where its bytes are no whole
-- records; then 1 or 14 for the map's length, and with room for 16,777,216 bytes never 14.
pub record Builds (l : List ℕ) (given w : ℕ) (o o' : List ℕ) (r written written' : ℕ) : Type 0 where
  pub numbers : (r ≡ 0) ⊎ ((r ≡ 1) ⊎ ((r ≡ 14) ⊎ ((r ≡ 18) ⊎ ((r ≡ 21) ⊎ (r ≡ 22)))))
  pub no_width : w ≢ 32 → w ≢ 128 → r ≡ 18
  pub uneven : (w ≡ 32) ⊎ (w ≡ 128) → length l % 24 ≢ 0 → r ≡ 21
  pub right : r ≡ 0 → Right l given w
  pub answered : (w ≡ 32) ⊎ (w ≡ 128) → Right l given w → 16777216 ≤ length o → (r ≡ 0) ⊎ (r ≡ 1)
  pub no_room : (m : List ℕ) → build_at l given w ≡ Made m → length o < length m → r ≡ 14
  pub past : r ≡ 0 → drop written' o' ≡ drop written' o
  pub untouched : r ≢ 0 → (o' ≡ o) × (written' ≡ written)

-- m: the bytes that were written. They are the defined map; the check accepts them; and every address of w bits walks to a RETURN with its record's
-- number, or with the given one where it lies in no record.
pub record Built (l : List ℕ) (given w : ℕ) (m : List ℕ) : Type 0 where
  pub exact : build_at l given w ≡ Made m
  pub accepted : (c : ℕ) × (d : ℕ) × (check_of m w ≡ Accepted c d)
  pub returns : (a : List ℕ) → (walk_of m a w).kind ≡ Returned
  pub recorded : (a : List ℕ) → ((i : ℕ) → get_or a i 0 < 256) → 8 * length a ≡ w
      → (j : ℕ) → j < length l / 24 → first l j ≤ address a 0 → address a 0 < past l j → (walk_of m a w).number ≡ number l j
  pub others : (a : List ℕ) → ((i : ℕ) → get_or a i 0 < 256) → 8 * length a ≡ w
      → ((j : ℕ) → j < length l / 24 → first l j ≤ address a 0 → address a 0 < past l j → ⊥) → (walk_of m a w).number ≡ given
