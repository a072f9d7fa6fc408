-- What a pass answers and leaves. Assumes nothing.
use Rattle.std.specs.Prelude.{ℕ, ◌+◌, ◌/◌, ◌≤◌, ◌<◌, Bool, true, false, ◌≡◌, List, length, Option, Some, None}
use Rattle.std.proofs.lemmas.List.Edits.{sets}
use Rattle.asmap_bit_writer.specs.Bytes.{bytes_of}

abbrev pub Sized : List ℕ → Option ℕ → Type 0
Sized bs (Some n) = (n ≡ length bs) × (length bs ≤ 134217728)
Sized bs None = 134217728 < length bs

-- A pass that writes knows the bits' count, and the output has room.
pub record WriteReady (writes : Bool) (total : ℕ) (bs o : List ℕ) : Type 0 where
  pub most : total ≤ 134217728
  pub count : writes ≡ true → total ≡ length bs
  pub room : writes ≡ true → (total + 7) / 8 ≤ length o

-- What it leaves.
pub record Filled (writes : Bool) (bs o o' : List ℕ) : Type 0 where
  pub idle : writes ≡ false → o' ≡ o
  pub busy : writes ≡ true → o' ≡ sets o 0 (bytes_of bs)
