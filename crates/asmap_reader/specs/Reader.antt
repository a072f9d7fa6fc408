-- What a bit reader does (document 01, Forms and Codes): a read at its place, and where it stands after it.
-- Assumes nothing.
use Rattle.std.specs.Prelude.{ℕ, List, Result}
use Rattle.asmap_items.specs.declared.Item.{Item}
use Rattle.asmap_items.specs.Items.{read_item, place_after, bits_left}
use Rattle.asmap_reader.specs.declared.BitReader.{BitReader}
use Rattle.asmap_reader.specs.declared.Read.{Read}
use Rattle.asmap_reader.specs.declared.Step.{Step}
use Rattle.asmap_codes.specs.Reading.{Code}
use Rattle.refusals.specs.declared.Fault.{Fault}

-- The reader at another place of the map that it holds.
abbrev pub moved_to : BitReader → ℕ → BitReader
moved_to r at = record { map = r.map; at = at }

-- What a read hands back: what was found, and the reader at the place after it.
abbrev pub handed : BitReader → Result Code Fault → Read
handed r got = record { got = got; reader = moved_to r (place_after r.at got) }

-- A read: what is asked for is looked for at the reader's place.
abbrev pub read_by : BitReader → Item → Read
read_by r item = handed r (read_item r.map.now r.at item)

-- The same in plain numbers: what was found, the place after it, and the bits left there.
abbrev pub told : List ℕ → ℕ → Result Code Fault → Step
told m at got = record { got = got; place = place_after at got; left = bits_left m (place_after at got) }

-- A read at a place of a map.
abbrev pub step_at : List ℕ → ℕ → Item → Step
step_at m at item = told m at (read_item m at item)
