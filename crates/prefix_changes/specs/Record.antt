-- Records of changes: 28 bytes for each. Assumes nothing.
use Rattle.std.specs.Prelude.{ℕ, List, [], ◌∷◌, ◌++◌}
use Rattle.byte_numbers.specs.Numbers.{bytes4}
use Rattle.prefix_records.specs.Tiling.{first_of}
use Rattle.prefix_records.specs.Record.{record_of, address_bytes}
use Rattle.prefix_changes.specs.Change.{Change}

-- The record of a change: the 24 bytes of its piece with the old number, and behind them the new number as four bytes, little-endian.
abbrev pub change_record_of : Change → List ℕ
change_record_of c = record_of c.was ++ bytes4 c.new

-- The records of changes, one after the other; no header.
abbrev pub change_records_of : List Change → List ℕ
change_records_of [] = []
change_records_of (c ∷ cs) = change_record_of c ++ change_records_of cs

-- The first address that differs, as 16 bytes; zeros where none does.
abbrev pub first_changed : List Change → List ℕ
first_changed [] = address_bytes 0
first_changed (c ∷ cs) = address_bytes (first_of 128 c.was)
