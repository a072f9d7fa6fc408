-- What changes from one map to another, over the width w in address bits: the changes from the old map's listing to the new one's.
-- Assumes nothing.
use Rattle.std.specs.Prelude.{ℕ, List}
use Rattle.asmap_codes.specs.Instruction.{map_of}
use Rattle.prefix_changes.specs.Change.{Change, changes}
use Rattle.asmap_listing.specs.Listing.{listing}

abbrev pub changes_of : List ℕ → List ℕ → ℕ → List Change
changes_of old new w = changes w (listing (map_of old)) (listing (map_of new))
