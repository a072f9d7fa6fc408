-- Pack (document 01, Unpack and pack; Order: 16 for the length, then per record 15, 16, 1). Assumes nothing.
use Rattle.std.specs.Prelude.{ℕ, zero, suc, ◌+◌, ◌*◌, ◌/◌, ◌%◌, Bool, not, ◌&&◌, List, [], ◌++◌, ltb, eqb, length, get_or, drop}
use Rattle.asmap_program.specs.Map.{limit}
use Rattle.asmap_codes.specs.Row.{type_row, operand_row, in_range}
use Rattle.asmap_codes.specs.Encode.{instruction_bits}
use Rattle.asmap_bit_writer.specs.Bytes.{bytes_of}
use Rattle.byte_numbers.specs.Numbers.{number4}
use Rattle.asmap_records.specs.Record.{zeros3}
use Rattle.asmap_records.specs.Output.{Making, Made, refuse, on}
use Rattle.refusals.specs.declared.Fault.TheVariants as fault
use Rattle.refusals.specs.declared.Refusal.TheVariants as refusal

-- The bits of an instruction whose record has these fields, where its first bit is to stand at `at`. Refused 15 for an opcode or
-- operand out of range; 16 where the zeros, the place or the length are wrong; 1 where it would end past the greatest map.
unfoldable pub field_bits : ℕ → Bool → ℕ → ℕ → ℕ → ℕ → Making
field_bits op zeros v place size at =
    refuse (not (in_range type_row op && in_range (operand_row op) v)) refusal.OutOfRange
    (refuse (not (zeros && eqb place at && eqb size (length (instruction_bits op v)))) refusal.Record
    (refuse (ltb (8 * limit) (at + length (instruction_bits op v))) (refusal.Map fault.MapTooLong)
    (Made (instruction_bits op v))))

-- The same for the record that l starts with.
abbrev pub record_bits : List ℕ → ℕ → Making
record_bits l at = field_bits (get_or l 0 0) (zeros3 l) (number4 l 4) (number4 l 8) (number4 l 12) at

-- The bits of n records, the first to stand at `at`, each next at the end of the one before; refused as the first wrong one is.
abbrev pub records_bits : ℕ → List ℕ → ℕ → Making
records_bits zero l at = Made []
records_bits (suc n) l at =
    on (λ (bs : List ℕ). on (λ (cs : List ℕ). Made (bs ++ cs)) (records_bits n (drop 16 l) (at + length bs))) (record_bits l at)

-- The bits of a list of records: 16 where its bytes are no whole records.
unfoldable pub pack_bits : List ℕ → Making
pack_bits rs = refuse (not (eqb (length rs % 16) 0)) refusal.Record (records_bits (length rs / 16) rs 0)

-- The bytes that pack makes of records.
unfoldable pub pack_of : List ℕ → Making
pack_of rs = on (λ (bs : List ℕ). Made (bytes_of bs)) (pack_bits rs)
