-- Request 6, a load everyone can make again, as a caller reads it (document 02, CR 6): of each call which numbers it answers and when, that a refused
-- call writes nothing, and what is so of the bytes that a load wrote. r is the answer; what is lent stands at entry first, at exit second.
-- Assumes nothing.
use Rattle.std.specs.Prelude.{ℕ, ◌+◌, ◌*◌, ◌/◌, ◌%◌, ◌≤◌, ◌<◌, ◌≡◌, ◌⊎◌, ◌≢◌, List, length, drop, get_or}
use Rattle.asmap_program.specs.declared.Kind.TheVariants.{Returned}
use Rattle.asmap_program.specs.Map.{address_bit}
use Rattle.asmap_program.specs.Walk.{Walked}
use Rattle.asmap_check.specs.Check.{check_of}
use Rattle.asmap_walk_bits.specs.Walk.{walk_of}
use Rattle.asmap_records.specs.Output.{Made}
use Rattle.load_draws.specs.Draw.{next, draw}
use Rattle.asmap_load.specs.Load.{load_of}
use Rattle.asmap_program.specs.Verdict.{Accepted}

-- ---- draws

-- A draw after s: 20 exactly for 0, and no number drawn is 0.
pub record Draws (s r entry drawn : ℕ) : Type 0 where
  pub zero : s ≡ 0 → r ≡ 20
  pub answered : s ≢ 0 → r ≡ 0
  pub exact : r ≡ 0 → drawn ≡ next s
  pub some : r ≡ 0 → drawn ≢ 0
  pub untouched : r ≢ 0 → drawn ≡ entry

-- So a caller who draws, and draws again from what was drawn, is refused only for the seed.
pub record DrawsOn (seed r drawn : ℕ) : Type 0 where
  pub zero : seed ≡ 0 → r ≡ 20
  pub never_refused : seed ≢ 0 → r ≡ 0
  pub exact : r ≡ 0 → drawn ≡ draw 2 seed

-- ---- a load

-- 20 exactly for a seed of 0 or more than 128 pairs; else 14 exactly where the load does not fit. (26 × pairs + 26) / 8 bytes are always enough, which
-- are 419 for 128 pairs.
pub record Loads (seed pairs : ℕ) (o o' : List ℕ) (r written written' : ℕ) : Type 0 where
  pub numbers : (r ≡ 0) ⊎ ((r ≡ 14) ⊎ (r ≡ 20))
  pub no_seed : seed ≡ 0 → r ≡ 20
  pub too_many : 128 < pairs → r ≡ 20
  pub answered : seed ≢ 0 → pairs ≤ 128 → (26 * pairs + 26) / 8 ≤ length o → r ≡ 0
  pub no_room : (m : List ℕ) → load_of seed pairs ≡ Made m → length o < length m → r ≡ 14
  pub past : r ≡ 0 → drop written' o' ≡ drop written' o
  pub untouched : r ≢ 0 → (o' ≡ o) × (written' ≡ written)

-- The first bits of an address are the MATCH bits of the load in order: draws number 2, 4, 6 and so on, each modulo 2.
abbrev pub Follows : ℕ → ℕ → List ℕ → Type 0
Follows seed pairs a = (i : ℕ) → i < pairs → address_bit a i ≡ draw (2 * i + 2) seed % 2

-- A walk that reads every instruction of the load, to its RETURN.
pub record WholeWalk (seed pairs : ℕ) (walk : Walked) : Type 0 where
  pub kind : walk.kind ≡ Returned
  pub number : walk.number ≡ 1 + draw (2 * pairs + 1) seed % 65536
  pub count : length walk.read ≡ 2 * pairs + 1
  pub bits : walk.bits ≡ pairs

-- m: the bytes that were written. They are the defined load; the check accepts them over every number w of address bits from `pairs` on, so at 128;
-- every address that follows the MATCH bits walks them all; and there is such an address, of 16 bytes.
pub record Loaded (seed pairs : ℕ) (m : List ℕ) : Type 0 where
  pub exact : load_of seed pairs ≡ Made m
  pub accepted : (w : ℕ) → pairs ≤ w → check_of m w ≡ Accepted (2 * pairs + 1) 0
  pub walked : (w : ℕ) → pairs ≤ w → (a : List ℕ) → Follows seed pairs a → WholeWalk seed pairs (walk_of m a w)
  pub some_address : (a : List ℕ) × (length a ≡ 16) × ((i : ℕ) → get_or a i 0 < 256) × Follows seed pairs a

-- A caller makes a load and checks it at 128: with room for 419 bytes only a wrong seed or number of pairs is refused, and the check counts and
-- finds no jump.
pub record LoadChecked (seed pairs : ℕ) (o : List ℕ) (r count depth : ℕ) : Type 0 where
  pub answered : seed ≢ 0 → pairs ≤ 128 → 419 ≤ length o → r ≡ 0
  pub counted : r ≡ 0 → (count ≡ 2 * pairs + 1) × (depth ≡ 0)
