-- The pass over the tree from its end to its start, as the loop keeps it: the subtree where it stands, and what is behind it.
-- Assumes nothing.
use Rattle.std.specs.Prelude.{ℕ, zero, suc, ◌-◌, ◌/◌, ◌%◌, List, ◌++◌, eqb, length, get_or}
use Rattle.asmap_program.specs.Map.{JUMP}
use Rattle.asmap_codes.specs.Encode.{pick_bits, instruction_bits}
use Rattle.asmap_shapes.specs.Shape.{shape, bits_of}

module _ (f : ℕ → ℕ) (w : ℕ) where
  -- The half with bit 0 beside the subtree of the prefix p of d bits, which ends with bit 1.
  abbrev pub beside : ℕ → ℕ → List ℕ
  beside d p = bits_of (shape f (w - d) (p - 1))

  -- All bits of the tree, where `behind` are those from the subtree of the prefix p of d bits on, that subtree among them. A subtree with
  -- bit 0 has its other half behind it already: its JUMP goes over what came since `starts` was noted for its depth. A subtree with bit 1
  -- has its other half still before it.
  unfoldable pub whole : List ℕ → ℕ → ℕ → List ℕ → List ℕ
  whole starts zero p behind = behind
  whole starts (suc d) p behind =
      whole starts d (p / 2)
      (pick_bits (eqb (p % 2) 0)
      (instruction_bits JUMP (length behind - get_or starts (suc d) 0) ++ behind)
      (instruction_bits JUMP (length (beside (suc d) p)) ++ (beside (suc d) p ++ behind)))
