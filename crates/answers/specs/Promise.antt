-- Demand 3 for the walk, and what Bitcoin Core answers to the same bytes, in the numbers that the calls hand out.
-- Assumes nothing.
use Rattle.std.specs.Prelude.{ℕ, ◌+◌, ◌*◌, ◌≤◌, ◌<◌, true, ◌≡◌, ◌⊎◌, ◌≢◌, List, [], ◌∷◌, eqb, length}
use Rattle.asmap_program.specs.Map.{limit, address_bit}
use Rattle.asmap_program.specs.Widths.{is_width}
use Rattle.asmap_program.specs.Core.{Read, INVALID, core_check, Number, core_interpret}
use Rattle.asmap_program.specs.Demand.{NoDefault}
use Rattle.asmap_codes.specs.Core.{file_of}
use Rattle.asmap_check.specs.Check.{check_of}
use Rattle.asmap_walk_bits.specs.Walk.{walk_of, summary}
use Rattle.asmap_walk.specs.Promise.{Kept}
use Rattle.answer_maps.specs.Maps.{end_numbers}
use Rattle.asmap_program.specs.Verdict.{Accepted}

-- The walk of the map m by w bits of the address a was made, and came to the end of the defined walk: at a RETURN, 1, or at a
-- difference, 2; within so many instructions. The number 0 is only that of a difference before any DEFAULT was read. `kept` says the rest
-- of that end, as that each instruction read is in the unpacked list.
pub record Finished (m a : List ℕ) (w r kind number count bits : ℕ) : Type 0 where
  pub done : r ≡ 0
  pub exact : kind ∷ number ∷ count ∷ bits ∷ [] ≡ end_numbers (summary (walk_of m a w))
  pub ended : (kind ≡ 1) ⊎ (kind ≡ 2)
  pub zero : number ≡ 0 → (kind ≡ 2) × NoDefault (walk_of m a w).read
  pub bounded : count ≤ 2 * bits + 1
  pub most : count ≤ 2 * w + 1
  pub kept : Kept m a w (summary (walk_of m a w))

-- so it is wherever the check accepts the map, for every address of 16 bytes: never more than 257 instructions
abbrev pub Demand3 : List ℕ → List ℕ → ℕ → ℕ → ℕ → ℕ → ℕ → Type 0
Demand3 m a r kind number count bits =
    (c d : ℕ) → check_of m 128 ≡ Accepted c d → length a ≡ 16 → Finished m a 128 r kind number count bits × (count ≤ 257)

-- Core's SanityCheckASMap (the paper core-asmap.md) over 128 address bits accepts a map within the limit exactly where the check's call
-- answers 0.
abbrev pub CoreVerdict : List ℕ → ℕ → Type 0
CoreVerdict m r = length m ≤ limit → core_check (file_of m) 128 ≡ eqb r 0

-- Core's Interpret gives the number that the walk's call hands out, wherever the check accepts the map, for every address of 16 bytes.
abbrev pub CoreNumber : List ℕ → List ℕ → ℕ → Type 0
CoreNumber m a number = (c d : ℕ) → check_of m 128 ≡ Accepted c d → length a ≡ 16 → core_interpret (address_bit a) 128 (file_of m) ≡ Number number

-- ---- the same three at a width, 32 or 128, for every address of so many bits (document 02, CR 3)

abbrev pub Demand3At : List ℕ → List ℕ → ℕ → ℕ → ℕ → ℕ → ℕ → ℕ → Type 0
Demand3At m a w r kind number count bits =
    is_width w ≡ true → (c d : ℕ) → check_of m w ≡ Accepted c d → 8 * length a ≡ w → Finished m a w r kind number count bits

abbrev pub CoreVerdictAt : List ℕ → ℕ → ℕ → Type 0
CoreVerdictAt m w r = is_width w ≡ true → length m ≤ limit → core_check (file_of m) w ≡ eqb r 0

abbrev pub CoreNumberAt : List ℕ → List ℕ → ℕ → ℕ → Type 0
CoreNumberAt m a w number =
    is_width w ≡ true → (c d : ℕ) → check_of m w ≡ Accepted c d → 8 * length a ≡ w → core_interpret (address_bit a) w (file_of m) ≡ Number number

-- Core's DecodeBits (r: its answer) reads at that bit what a call that reads a code hands out: where the call answers 0, the value,
-- which is never INVALID, and the bit after it; where it refuses, INVALID. Of a map within the limit, which Core does not have, and from
-- a bit up to the map's end, past which Core never reads.
abbrev pub CoreCode : List ℕ → ℕ → ℕ → ℕ → ℕ → Read → Type 0
CoreCode m at answer value next r =
    length m ≤ limit → at ≤ 8 * length m
    → (answer ≡ 0 → (r ≡ record { value = value; pos = next }) × (value < INVALID)) × (answer ≢ 0 → r.value ≡ INVALID)
