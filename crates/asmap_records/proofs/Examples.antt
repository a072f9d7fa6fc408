-- Records and maps computed from the definitions (document 01, Unpack and pack; Order). Assumes nothing.
use Prim.Native.Nat.{ℕ}
use mathlib.Core.Path.{◌≡◌, refl}
use mathlib.Core.List.{List, [], ◌∷◌, ◌++◌, map}
use Rattle.asmap_program.specs.Check.{check, run, reads, step, guard, unpacked}
use Rattle.asmap_program.specs.Map.{length_in, length_of}
use Rattle.asmap_codes.specs.Encode.{instruction_bits}
use Rattle.asmap_codes.specs.Instruction.{fetch_at, padded_from, map_of}
use Rattle.asmap_records.specs.Record.{record_of}
use Rattle.asmap_bit_writer.specs.Bytes.{bytes_of}
use Rattle.asmap_records.specs.Output.{Making, Made, No, refuse}
use Rattle.asmap_records.specs.Pack.{field_bits, record_bits, pack_bits, pack_of}
use Rattle.asmap_records.specs.Unpack.{unpack_of}
use Rattle.refusals.specs.declared.Fault.TheVariants as fault
use Rattle.refusals.specs.declared.Refusal.TheVariants as refusal

-- a record from its four fields
abbrev fields : ℕ → ℕ → ℕ → ℕ → List ℕ
fields op v place size = record_of (record { opcode = op; operand = v; place = place; size = size })

-- JUMP 17 over a RETURN 1 to a RETURN 1: 8, 17 and 17 bits, six bytes
abbrev jump : List ℕ
jump = fields 1 17 0 8 ++ fields 0 1 8 17 ++ fields 0 1 25 17

abbrev lists : List (List ℕ)
lists =
    []
    ∷ fields 0 1 0 17
    ∷ jump
    ∷ fields 0 33521664 0 34
    ∷ fields 1 2147483632 0 57
    ∷ fields 2 2 0 5
    -- refused: no whole record; an opcode, an operand out of range; an operand and a place wrong; a zero; a place; a length
    ∷ (0 ∷ [])
    ∷ fields 4 1 0 17
    ∷ fields 0 0 0 17
    ∷ fields 0 33521665 1 17
    ∷ (0 ∷ 1 ∷ 0 ∷ 0 ∷ 1 ∷ 0 ∷ 0 ∷ 0 ∷ 0 ∷ 0 ∷ 0 ∷ 0 ∷ 17 ∷ 0 ∷ 0 ∷ 0 ∷ [])
    ∷ fields 0 1 1 17
    ∷ fields 0 1 0 16
    ∷ []

abbrev answers : List Making
answers =
    Made []
    ∷ Made (0 ∷ 0 ∷ 0 ∷ [])
    ∷ Made (1 ∷ 0 ∷ 0 ∷ 0 ∷ 0 ∷ 0 ∷ [])
    ∷ Made (254 ∷ 255 ∷ 255 ∷ 255 ∷ 3 ∷ [])
    ∷ Made (253 ∷ 255 ∷ 255 ∷ 255 ∷ 255 ∷ 255 ∷ 255 ∷ 1 ∷ [])
    ∷ Made (3 ∷ [])
    ∷ No refusal.Record
    ∷ No refusal.OutOfRange
    ∷ No refusal.OutOfRange
    ∷ No refusal.OutOfRange
    ∷ No refusal.Record
    ∷ No refusal.Record
    ∷ No refusal.Record
    ∷ []

pub pack-examples : map pack_of lists ≡ answers
unfolding pack_of pack_bits refuse field_bits bytes_of instruction_bits
pack-examples = refl

pub unpack-examples : map (λ (m : List ℕ). unpack_of m 128) ((0 ∷ 0 ∷ 0 ∷ []) ∷ (1 ∷ 0 ∷ 0 ∷ 0 ∷ 0 ∷ 0 ∷ []) ∷ [] ∷ [])
    ≡ Made (fields 0 1 0 17) ∷ Made jump ∷ No (refusal.Map fault.MapEnds) ∷ []
unfolding unpack_of map_of check unpacked run reads step guard fetch_at padded_from length_of length_in
unpack-examples = refl

-- a record that ends on the last bit of the greatest map, one that ends past it, and one that does so at a wrong place
pub end-examples : (record_bits (fields 2 2 134217723 5) 134217723 ≡ Made (1 ∷ 1 ∷ 0 ∷ 0 ∷ 0 ∷ []))
    × (record_bits (fields 2 2 134217724 5) 134217724 ≡ No (refusal.Map fault.MapTooLong))
    × (record_bits (fields 2 2 134217725 5) 134217724 ≡ No refusal.Record)
unfolding refuse field_bits instruction_bits
end-examples = (refl, refl, refl)
