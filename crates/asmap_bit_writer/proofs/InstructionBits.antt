-- An instruction's bits are bits. Assumes nothing.
use mathlib.Core.List.{List, [], ◌∷◌, ◌++◌}
use Prim.Native.Nat.{ℕ, zero, suc, ◌-◌, ◌^◌, ◌<◌}
use native.Mathlib.Decide.{dec_lt}
use native.Mathlib.Omega.{arith}
use borrow.Author.Tests.{lt-ltb, le-ltb}
use lib.Dec.{lit<}
use Rattle.asmap_codes.specs.Bits.{high}
use Rattle.asmap_codes.specs.Row.{type_row, operand_row}
use Rattle.asmap_codes.specs.Encode.{encode, encode_of, instruction_bits}
use Rattle.asmap_codes.proofs.BitLaws.{AllBits}

bits_high : (n x : ℕ) → AllBits (high n x)
bits_high zero x i = lit< tt
bits_high (suc n) x zero = omega arith
bits_high (suc n) x (suc i) = bits_high n x i

bits-cons : (b : ℕ) (l : List ℕ) → b < 2 → AllBits l → AllBits (b ∷ l)
bits-cons b l h k zero = h
bits-cons b l h k (suc i) = k i

bits-encode : (ss : List ℕ) (x : ℕ) → AllBits (encode ss x)
bits-encode [] x = λ i. lit< tt
bits-encode (s ∷ []) x = bits_high s x
bits-encode (s ∷ t ∷ ss) x = go (dec_lt x (2 ^ s)) (bits-encode (t ∷ ss) (x - 2 ^ s))
  where
    go : Dec (x < 2 ^ s) → AllBits (encode (t ∷ ss) (x - 2 ^ s)) → AllBits (encode (s ∷ t ∷ ss) x)
    go (yes l) ih = rw (lt-ltb x (2 ^ s) l) (bits-cons 0 (high s x) (lit< tt) (bits_high s x))
    go (no g) ih = rw (le-ltb x (2 ^ s) (omega arith)) (bits-cons 1 (encode (t ∷ ss) (x - 2 ^ s)) (lit< tt) ih)

pub bits-append : (a b : List ℕ) → AllBits a → AllBits b → AllBits (a ++ b)
bits-append [] b h k = k
bits-append (x ∷ xs) b h k = bits-cons x (xs ++ b) (h 0) (bits-append xs b (λ i. h (suc i)) k)

pub bits_instruction : (op v : ℕ) → AllBits (instruction_bits op v)
unfolding instruction_bits
bits_instruction op v =
    bits-append (encode_of type_row op) (encode_of (operand_row op) v)
    (bits-encode type_row.sizes (op - type_row.least)) (bits-encode (operand_row op).sizes (v - (operand_row op).least))
