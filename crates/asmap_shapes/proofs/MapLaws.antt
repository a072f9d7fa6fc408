-- The bytes of a shape are a map: it is accepted, and walks end where the address finds its number (document 02, CR 8). Assumes nothing.
use Prim.Native.Nat.{ℕ, ◌+◌, ◌-◌, ◌*◌, ◌≤◌}
use mathlib.Core.Bool.{true}
use mathlib.Core.Path.{◌≡◌, ◌∙◌}
use mathlib.Core.List.{List}
use native.Mathlib.Omega.{arith}
use lib.ListN.{length}
use borrow.Author.Tests.{le-leb}
use Rattle.asmap_program.specs.declared.Kind.TheVariants.{Returned}
use Rattle.asmap_program.specs.Check.{check}
use Rattle.asmap_program.specs.Tree.{Program}
use Rattle.asmap_program.specs.Walk.{walk}
use Rattle.asmap_program.proofs.TreeAccepted.{tree_accepted}
use Rattle.prefix_records.specs.Tiling.{number_of, Bits}
use Rattle.asmap_codes.specs.Instruction.{map_of, padded_from}
use Rattle.asmap_codes.proofs.MapLaws.{laws, map-bits}
use Rattle.asmap_bit_writer.specs.Bytes.{bytes_of}
use Rattle.asmap_bit_writer.proofs.ByteLaws.{length-bytes_of}
use Rattle.asmap_bit_writer.proofs.ToCome.{read_back}
use Rattle.asmap_shapes.specs.Shape.{Shape, shape, bits_of}
use Rattle.asmap_shapes.proofs.ShapeLaws.{depth, Each, depth-shape, each-shape, found-shape}
use Rattle.asmap_shapes.proofs.TreeLaws.{Number, list_of, all-bits, Stands, tree_of, Finds, walk_of}
use Rattle.asmap_program.specs.Verdict.{Accepted}

-- ---- a shape no deeper than the addresses have bits

module _ (t : Shape) (w : ℕ) (low : depth t ≤ w) (numbers : Each Number t) (short : length (bits_of t) ≤ 134217728) where
  abbrev bytes : List ℕ
  bytes = bytes_of (bits_of t)

  stands : Stands bytes 0 t
  stands = let r = read_back (bits_of t) (all-bits t) in record { bits = (r.pad, r.whole); numbers = numbers; short = short }

  tail : (map_of bytes).padded (0 + length (bits_of t)) ≡ true
  unfolding map_of padded_from
  tail =
      let r = read_back (bits_of t) (all-bits t) in
      let z : 0 + length (bits_of t) ≡ length (bits_of t) = omega arith in
      rw (z, le-leb (8 * length bytes - length (bits_of t)) 7 r.few) r.blank

  program : Program (map_of bytes) w (list_of 0 t)
  program = record { end = 0 + length (bits_of t); tree = tree_of bytes t 0 w low stands; tail = tail }

  accepted : (c : ℕ) × (d : ℕ) × (check (map_of bytes) w ≡ Accepted c d)
  accepted = let r = tree_accepted (map_of bytes) (laws bytes) program in (length (list_of 0 t), r.0, r.1)

  walks : (a : ℕ → ℕ) → Finds bytes a w t 0 (walk a (map_of bytes) w)
  unfolding walk
  walks a = walk_of bytes a w t 0 (map_of bytes).bits 0 0 (omega (arith, map-bits bytes, length-bytes_of (bits_of t))) (omega arith) stands

-- ---- the tree of a function of addresses

module _ (f : ℕ → ℕ) (numbers : (a : ℕ) → Number (f a)) (w : ℕ) (short : length (bits_of (shape f w 0)) ≤ 134217728) where
  each : Each Number (shape f w 0)
  each = each-shape f Number numbers w 0

  -- its bytes are accepted
  pub shape_accepted : (c : ℕ) × (d : ℕ) × (check (map_of (bytes_of (bits_of (shape f w 0)))) w ≡ Accepted c d)
  shape_accepted = accepted (shape f w 0) w (depth-shape f w 0) each short

  -- and every address walks to a RETURN with the function's number
  pub shape-walks : (a : ℕ → ℕ) → Bits a
      → ((walk a (map_of (bytes_of (bits_of (shape f w 0)))) w).kind ≡ Returned) × ((walk a (map_of (bytes_of (bits_of (shape f w 0)))) w).number ≡ f (number_of a w))
  shape-walks a two =
      let r = walks (shape f w 0) w (depth-shape f w 0) each short a in
      (r.kind, r.number ∙ found-shape f a two w)
