-- A map built from a list of prefixes (document 02, CR 8). Assumes nothing.
use Rattle.std.specs.Prelude.{ℕ, ◌*◌, List, ltb, length, Result, Err}
use Rattle.asmap_program.specs.Map.{limit}
use Rattle.asmap_program.specs.Widths.{at_width}
use Rattle.prefix_lists.specs.List.{count_of, piece_at, number_at, judge}
use Rattle.asmap_bit_writer.specs.Bytes.{bytes_of}
use Rattle.asmap_records.specs.Output.{Making, Made, No, refuse}
use Rattle.asmap_shapes.specs.Shape.{shape, bits_of}
use Rattle.prefix_lists.specs.Judged.{Listed}
use Rattle.refusals.specs.declared.Refusal.{Refusal}
use Rattle.refusals.specs.declared.Fault.TheVariants as fault
use Rattle.refusals.specs.declared.Refusal.TheVariants as refusal

-- "its record's number or … the given one": the number of each address of w bits, l being the record bytes.
abbrev pub number_in : List ℕ → ℕ → ℕ → ℕ → ℕ
number_in l given w = number_at w (piece_at l) given (count_of l)

-- The map's bits: the tree of all addresses of w bits.
abbrev pub tree_bits : List ℕ → ℕ → ℕ → List ℕ
tree_bits l given w = bits_of (shape (number_in l given w) w 0)

-- By how the list is judged: refused as it says; else 1 for a map over the limit, or its bytes.
abbrev pub build_as : List ℕ → Result (Unit {0}) Refusal → Making
build_as bits Listed = refuse (ltb (8 * limit) (length bits)) (refusal.Map fault.MapTooLong) (Made (bytes_of bits))
build_as bits (Err n) = No n

-- The bytes of the map that is built over w address bits.
unfoldable pub build_of : List ℕ → ℕ → ℕ → Making
build_of l given w = build_as (tree_bits l given w) (judge w l given)

-- "both after 18": at a width.
abbrev pub build_at : List ℕ → ℕ → ℕ → Making
build_at l given w = at_width w No (build_of l given w)
