-- What an output will hold while bits are still to come: the bits that a writer holds, and the rest. Assumes nothing.
use Rattle.std.specs.Prelude.{ℕ, zero, suc, ◌+◌, ◌*◌, ◌/◌, ◌%◌, ◌^◌, ◌<◌, ◌≡◌, List, ◌++◌, length, set}
use Rattle.std.proofs.lemmas.List.Edits.{sets}
use Rattle.asmap_codes.specs.Bits.{low}
use Rattle.asmap_bit_writer.specs.Bytes.{bytes_of}
use Rattle.asmap_bit_writer.specs.declared.BitWriter.{BitWriter}

-- A writer that words can be pushed to: it holds fewer than 64 bits, and none above them.
pub record Ready (w : BitWriter) : Type 0 where
  pub small : w.bits < 2 ^ w.held
  pub short : w.held < 64

-- The writer from a byte of the output on, which has no bits yet.
abbrev pub from : ℕ → BitWriter
from place = record { bits = 0; held = 0; place = place }

-- What the output o will hold when the bits that the writer holds and then the rest are written.
unfoldable pub stream : List ℕ → BitWriter → List ℕ → List ℕ
stream o w rest = sets o w.place (bytes_of (low w.held w.bits ++ rest))

-- The output o with n bytes of the number a from place p on, the lowest first.
abbrev pub put_bytes : ℕ → List ℕ → ℕ → ℕ → List ℕ
put_bytes zero o p a = o
put_bytes (suc n) o p a = put_bytes n (set o p (a % 256)) (p + 1) (a / 256)

-- Bits were pushed to the writer w, of the output o: the writer w' and the output o' after it. What comes later stands where it
-- would have stood after the bits.
pub record Moved (o : List ℕ) (w : BitWriter) (bits : List ℕ) (o' : List ℕ) (w' : BitWriter) : Type 0 where
  pub ready : Ready w'
  pub placed : 8 * w'.place + w'.held ≡ 8 * w.place + w.held + length bits
  pub kept : length o' ≡ length o
  pub streams : (rest : List ℕ) → stream o w (bits ++ rest) ≡ stream o' w' rest
