-- What a listing promises of every map that the check accepts, over the width w in address bits (document 02, CR 1): "records rise by address",
-- "every address lies in just one, and that one carries the walk's number".
-- Assumes nothing.
use Rattle.std.specs.Prelude.{ℕ, ◌^◌, ◌≡◌, List}
use Rattle.asmap_program.specs.Map.{address_bit}
use Rattle.asmap_program.specs.Walk.{walk}
use Rattle.asmap_codes.specs.Instruction.{map_of}
use Rattle.asmap_check.specs.Check.{check_of}
use Rattle.prefix_records.specs.Tiling.{Piece, Tiles, JustOne, number_of}
use Rattle.asmap_listing.specs.Listing.{listing}
use Rattle.asmap_program.specs.Verdict.{Accepted}

-- The pieces tile all addresses of w bits: the first begins at 0, each other where the one before it ends, the last ends at 2 ^ w. And every
-- address, given by its bytes, lies in just one, which has the number of its walk.
pub record Whole (m : List ℕ) (w : ℕ) (ps : List Piece) : Type 0 where
  pub tiles : Tiles w 0 (2 ^ w) ps
  pub walks : (a : List ℕ) → JustOne w (number_of (address_bit a) w) (walk (address_bit a) (map_of m) w).number ps

-- so it is wherever the check accepts the map
abbrev pub Covers : List ℕ → ℕ → Type 0
Covers m w = (c d : ℕ) → check_of m w ≡ Accepted c d → Whole m w (listing (map_of m))
