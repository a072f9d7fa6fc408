-- What the loop that writes a listing is told of the map: how many pieces it lists, that they come out of one pass over the instructions, and that
-- they tile the addresses of 128 bits (as those of fewer bits do too, with zeros behind).
-- Assumes nothing.
use Rattle.std.specs.Prelude.{ℕ, ◌^◌, ◌≡◌, List, length}
use Rattle.asmap_codes.specs.Instruction.{map_of}
use Rattle.prefix_records.specs.Tiling.{Tiles}
use Rattle.asmap_listing.specs.Listing.{listing}
use Rattle.asmap_listing.specs.models.Scan.{leaves, scan_start, scanned}

pub record Listed (m : List ℕ) (n : ℕ) : Type 0 where
  pub scans : scanned (map_of m) 128 0 scan_start ≡ leaves (listing (map_of m))
  pub tiles : Tiles 128 0 (2 ^ 128) (listing (map_of m))
  pub count : length (listing (map_of m)) ≡ n
