-- Demand 2 as a caller reads it: codes, the check and the walk against Core's, and unpack and pack, one after the other.
-- Assumes nothing.
use Rattle.std.specs.Prelude.{ℕ, ◌*◌, ◌≤◌, ◌<◌, ◌≡◌, true, ◌≢◌, List, length, take}
use Rattle.asmap_program.specs.Core.{Read, core_check}
use Rattle.asmap_codes.specs.Core.{file_of}
use Rattle.asmap_check.specs.Check.{check_of}
use Rattle.asmap_program.specs.Verdict.{Accepted}

-- Of a map m of at most 16,777,216 bytes: the check answers 0 exactly where Core's SanityCheckASMap(m, w) says true.
pub record CoreAccepts (m : List ℕ) (w r : ℕ) : Type 0 where
  pub where_core : length m ≤ 16777216 → core_check (file_of m) w ≡ true → r ≡ 0
  pub only_there : length m ≤ 16777216 → r ≡ 0 → core_check (file_of m) w ≡ true

-- A code read from bit `at` of such a map, up to its end, beside what Core's DecodeBits reads there (core). Where the answer is 0 both have
-- one value, and stand at one bit after it; where it is not, Core has INVALID, 4,294,967,295, which is no value of a code.
pub record CoreReads (m : List ℕ) (at r value next : ℕ) (core : Read) : Type 0 where
  pub found : length m ≤ 16777216 → at ≤ 8 * length m → r ≡ 0 → (core.value ≡ value) × (core.pos ≡ next) × (value < 4294967295)
  pub invalid : length m ≤ 16777216 → at ≤ 8 * length m → r ≢ 0 → core.value ≡ 4294967295

-- What was written, the first `written` bytes of the output at exit (o), is what there was first (l), all of it.
pub record Again (l o : List ℕ) (written : ℕ) : Type 0 where
  pub as_long : written ≡ length l
  pub same : take written o ≡ l

-- A map m that is unpacked and packed again. Where the answer r is 0 it is the same map; and 0 is the answer for every map that the check
-- accepts, with a count of c instructions, given room for 16 bytes for each of them, and for the map.
pub record UnpackedThenPacked (m : List ℕ) (w : ℕ) (records bytes bytes' : List ℕ) (r written : ℕ) : Type 0 where
  pub again : r ≡ 0 → Again m bytes' written
  pub answered : (c d : ℕ) → check_of m w ≡ Accepted c d → 16 * c ≤ length records → length m ≤ length bytes → r ≡ 0
