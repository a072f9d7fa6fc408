-- What is promised of every map that is built from a list of prefixes (document 02, CR 8). Assumes nothing.
use Rattle.std.specs.Prelude.{ℕ, ◌≡◌, List, take, Result, Ok}
use Rattle.asmap_program.specs.declared.Kind.TheVariants.{Returned}
use Rattle.asmap_program.specs.Map.{address_bit}
use Rattle.prefix_records.specs.Tiling.{number_of}
use Rattle.prefix_lists.specs.List.{count_of, piece_at}
use Rattle.prefix_joins.specs.Joined.{joined, starts_of, filled}
use Rattle.asmap_listing.specs.Listing.{listing}
use Rattle.asmap_codes.specs.Instruction.{map_of}
use Rattle.asmap_check.specs.Check.{check_of}
use Rattle.asmap_walk_bits.specs.Walk.{walk_of}
use Rattle.asmap_build.specs.Build.{number_in}
use Rattle.asmap_program.specs.Verdict.{Accepted}
use Rattle.refusals.specs.declared.Refusal.{Refusal}

-- The map m, built from the record bytes l and the given number over w address bits. "Every map it writes is accepted, and every address walks to its
-- record's number or to the given one", by a RETURN. And its listing says of the addresses what the list says: joined by number, both are the same.
pub record Builds (l : List ℕ) (given w : ℕ) (m : List ℕ) : Type 0 where
  pub accepted : (c : ℕ) × (d : ℕ) × (check_of m w ≡ Accepted c d)
  pub returns : (a : List ℕ) → (walk_of m a w).kind ≡ Returned
  pub walks : (a : List ℕ) → (walk_of m a w).number ≡ number_in l given w (number_of (address_bit a) w)
  pub lists : joined (starts_of w (listing (map_of m))) ≡ joined (filled w (piece_at l) given (count_of l))

-- so it is of the bytes that a call wrote, o being the output at exit and r the answer
abbrev pub WritesMap : List ℕ → ℕ → ℕ → List ℕ → Result ℕ Refusal → Type 0
WritesMap l given w o r = (k : ℕ) → r ≡ Ok k → Builds l given w (take k o)
