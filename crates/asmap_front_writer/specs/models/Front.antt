-- Bits written before others: what an output will hold while bits are still to come before those that it holds. Assumes nothing.
use Rattle.std.specs.Prelude.{ℕ, ◌+◌, ◌*◌, ◌^◌, ◌≤◌, ◌<◌, Bool, true, false, ◌&&◌, ◌≡◌, List, ◌++◌, length}
use Rattle.std.proofs.lemmas.List.Edits.{sets}
use Rattle.asmap_codes.specs.Bits.{low}
use Rattle.asmap_codes.specs.Row.{type_row, operand_row, in_range}
use Rattle.asmap_codes.specs.Encode.{instruction_bits}
use Rattle.asmap_bit_writer.specs.Bytes.{bytes_of}
use Rattle.asmap_front_writer.specs.declared.Front.{Front}

-- What the output o will hold when `before` are the bits before those held.
unfoldable pub filled : List ℕ → Front → List ℕ → List ℕ
filled o w before = sets o 0 (bytes_of (before ++ low w.held w.bits))

-- The bits held are fewer than 8, none above them, and there is room before them for n bits.
pub record Room (o : List ℕ) (w : Front) (n : ℕ) : Type 0 where
  pub small : w.bits < 2 ^ w.held
  pub short : w.held < 8
  pub free : n + w.held ≤ 8 * w.place
  pub inside : w.place ≤ length o

-- Bits b were put before those of w, of the output o: w' and the output o' after it. What comes later stands where it would have stood before b.
pub record Moved (o : List ℕ) (w : Front) (b : List ℕ) (o' : List ℕ) (w' : Front) : Type 0 where
  pub small : w'.bits < 2 ^ w'.held
  pub short : w'.held < 8
  pub placed : 8 * w'.place + w.held + length b ≡ 8 * w.place + w'.held
  pub fills : (before : List ℕ) → length before + w'.held ≡ 8 * w'.place → filled o w (before ++ b) ≡ filled o' w' before

-- Asked of an instruction: it is in range, and there is room where it is written.
pub record Ready (o : List ℕ) (w : Front) (op v : ℕ) (writes : Bool) : Type 0 where
  pub ranged : (in_range type_row op && in_range (operand_row op) v) ≡ true
  pub few : w.done ≤ 134217728
  pub room : writes ≡ true → Room o w (length (instruction_bits op v))

-- An instruction was put before what is there, or only counted.
pub record Emitted (o : List ℕ) (w : Front) (op v : ℕ) (writes : Bool) (o' : List ℕ) (w' : Front) : Type 0 where
  pub done : w'.done ≡ w.done + length (instruction_bits op v)
  pub kept : length o' ≡ length o
  pub idle : writes ≡ false → o' ≡ o
  pub busy : writes ≡ true → Moved o w (instruction_bits op v) o' w'
