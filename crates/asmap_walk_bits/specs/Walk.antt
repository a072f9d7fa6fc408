-- The walk of a map's bytes by an address's bytes, and how it ended (document 01, Walk).
-- Assumes nothing.
use Rattle.std.specs.Prelude.{ℕ, List, length}
use Rattle.asmap_program.specs.Map.{address_bit}
use Rattle.asmap_program.specs.Walk.{Walked, walk}
use Rattle.asmap_codes.specs.Instruction.{map_of}
use Rattle.asmap_walk_bits.specs.declared.Ending.{Ending}

-- the defined walk of the map m by the first w bits of the address a
unfoldable pub walk_of : List ℕ → List ℕ → ℕ → Walked
walk_of m a w = walk (address_bit a) (map_of m) w

-- how a walk ended: its count is the number of instructions that it read whole
abbrev pub summary : Walked → Ending
summary r = record { kind = r.kind; number = r.number; count = length r.read; bits = r.bits }
