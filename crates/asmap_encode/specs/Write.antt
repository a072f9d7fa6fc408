-- What writing hands back (document 01, Codes): bits in a word, the first bit lowest, or 15 where a value is out of its row's
-- range. Assumes nothing.
use Rattle.std.specs.Prelude.{ℕ, ◌+◌, ◌*◌, ◌^◌, Bool, true, false, ◌&&◌, List, [], ◌∷◌, Result, Ok, Err}
use Rattle.asmap_codes.specs.Encode.{encode_of, instruction_bits}
use Rattle.asmap_codes.specs.Row.{Row, type_row, operand_row, in_range}
use Rattle.asmap_encode.specs.declared.Word.{Word}
use Rattle.refusals.specs.declared.Refusal.{Refusal}
use Rattle.refusals.specs.declared.Refusal.TheVariants as refusal

-- One bit more, above the others.
abbrev pub put : Word → ℕ → Word
put w b = record { bits = w.bits + b * 2 ^ w.len; len = w.len + 1 }

-- Bits one after the other.
abbrev pub puts : Word → List ℕ → Word
puts w [] = w
puts w (b ∷ bs) = puts (put w b) bs

-- No bits.
abbrev pub none : Word
none = record { bits = 0; len = 0 }

-- The first where the test holds, else the second.
abbrev pub pick_written : Bool → Result Word Refusal → Result Word Refusal → Result Word Refusal
pick_written true a b = a
pick_written false a b = b

-- A code after the bits of a word.
abbrev pub write_after : Word → Row → ℕ → Result Word Refusal
write_after w row v = pick_written (in_range row v) (Ok (puts w (encode_of row v))) (Err refusal.OutOfRange)

-- Writing a code (document 01, "What a call hands back", Order): 15 for a value out of the row's range, else the code's bits.
abbrev pub write_code : Row → ℕ → Result Word Refusal
write_code row v = write_after none row v

-- Writing an instruction (document 01, "What a call hands back": opcode or operand out of its range is 15).
unfoldable pub write_instruction : ℕ → ℕ → Result Word Refusal
write_instruction op v = pick_written (in_range type_row op && in_range (operand_row op) v) (Ok (puts none (instruction_bits op v))) (Err refusal.OutOfRange)
