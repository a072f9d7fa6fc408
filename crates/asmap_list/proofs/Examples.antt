-- The examples hold, by computation.
-- Assumes nothing.
use Prim.Native.Nat.{ℕ}
use mathlib.Core.Path.{◌≡◌, refl}
use mathlib.Core.List.{List, map}
use Rattle.asmap_program.specs.Map.{length_in, length_of}
use Rattle.asmap_program.specs.Check.{guard, step, run, check}
use Rattle.asmap_codes.specs.Instruction.{fetch_at, padded_from, map_of}
use Rattle.asmap_records.specs.Output.{Making, Made}
use Rattle.prefix_records.specs.Tiling.{Piece}
use Rattle.asmap_listing.specs.Listing.{aside, sides, list_from, listing}
use Rattle.asmap_list.specs.List.{list_of}
use Rattle.asmap_list.specs.Examples.{examples, written}

pub examples_hold
    : map {B = List Piece} (λ (e : List ℕ × List Piece). listing (map_of e.0)) examples
    ≡ map {B = List Piece} (λ (e : List ℕ × List Piece). e.1) examples
unfolding listing list_from sides aside map_of fetch_at padded_from length_of length_in
examples_hold = refl

pub written_hold
    : map {B = Making} (λ (e : List ℕ × List ℕ). list_of e.0 128) written
    ≡ map {B = Making} (λ (e : List ℕ × List ℕ). Made e.1) written
unfolding list_of check run step guard listing list_from sides aside map_of fetch_at padded_from length_of length_in
written_hold = refl
