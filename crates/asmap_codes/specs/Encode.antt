-- The bits of a code and of an instruction: what is written for a value (document 01, Codes). Assumes nothing.
use Rattle.std.specs.Prelude.{ℕ, ◌-◌, ◌^◌, Bool, true, false, List, [], ◌∷◌, ◌++◌, ltb}
use Rattle.asmap_codes.specs.Bits.{high}
use Rattle.asmap_codes.specs.Row.{Row, type_row, operand_row}

-- The first where the test holds, else the second.
abbrev pub pick_bits : Bool → List ℕ → List ℕ → List ℕ
pick_bits true a b = a
pick_bits false a b = b

-- The code of x, a value less its row's least: 0 and the size's bits, highest first, at the first size that has the value; a 1
-- for each size before it, and no such bit for the last.
abbrev pub encode : List ℕ → ℕ → List ℕ
encode [] x = []
encode (s ∷ []) x = high s x
encode (s ∷ t ∷ ss) x = pick_bits (ltb x (2 ^ s)) (0 ∷ high s x) (1 ∷ encode (t ∷ ss) (x - 2 ^ s))

-- The code of a value of a row.
abbrev pub encode_of : Row → ℕ → List ℕ
encode_of row v = encode row.sizes (v - row.least)

-- An instruction's bits: the opcode's code, then the operand's in the opcode's row.
unfoldable pub instruction_bits : ℕ → ℕ → List ℕ
instruction_bits op v = encode_of type_row op ++ encode_of (operand_row op) v
