-- What a comparison promises of every two maps that the check accepts, over the width w in address bits: "an address lies in a record exactly where the
-- two walks end with different numbers, and that record carries both".
-- Assumes nothing.
use Rattle.std.specs.Prelude.{ℕ, ◌≡◌, List, []}
use Rattle.asmap_program.specs.Map.{address_bit}
use Rattle.asmap_program.specs.Walk.{walk}
use Rattle.asmap_codes.specs.Instruction.{map_of}
use Rattle.asmap_check.specs.Check.{check_of}
use Rattle.prefix_records.specs.Tiling.{number_of}
use Rattle.prefix_changes.specs.Change.{Change, Tells, Rises, backs}
use Rattle.asmap_changes.specs.Changes.{changes_of}
use Rattle.asmap_program.specs.Verdict.{Accepted}

-- The number at which an address, given by its bytes, ends in a map.
abbrev pub ends_at : List ℕ → List ℕ → ℕ → ℕ
ends_at m a w = (walk (address_bit a) (map_of m) w).number

-- rises: the changes rise by address. told: an address lies in one of them exactly where its two walks end with different numbers, and that one carries
-- both. silent: no change means that every address walks to the same number, whatever the bytes. same: the same bytes give no change. turned: from the
-- new map to the old one the changes differ only in the order of the numbers.
pub record Compared (old new : List ℕ) (w : ℕ) (cs : List Change) : Type 0 where
  pub rises : Rises w 0 cs
  pub told : (a : List ℕ) → Tells w (number_of (address_bit a) w) (ends_at old a w) (ends_at new a w) cs
  pub silent : cs ≡ [] → (a : List ℕ) → ends_at old a w ≡ ends_at new a w
  pub same : old ≡ new → cs ≡ []
  pub turned : changes_of new old w ≡ backs cs

-- so it is wherever the check accepts both
abbrev pub Compares : List ℕ → List ℕ → ℕ → Type 0
Compares old new w = (c d c' d' : ℕ) → check_of old w ≡ Accepted c d → check_of new w ≡ Accepted c' d' → Compared old new w (changes_of old new w)
