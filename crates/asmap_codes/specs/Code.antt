-- What reading a code gives (document 01, Codes): the value and the bit after it, or Cut where the bits end first.
-- Assumes nothing.
use Rattle.std.specs.Prelude.{ℕ, zero, suc, ◌+◌, ◌^◌, Bool, true, false, List, [], ◌∷◌, leb, ltb, length, take, drop, Result, Err, Option}
use Rattle.asmap_program.specs.Map.{limit, Part, Opcode, Operand, cut_reason}
use Rattle.asmap_codes.specs.Bits.{map_bits, number}
use Rattle.asmap_codes.specs.Row.{Row}
use Rattle.asmap_codes.specs.Reading.{Code, Cut, Found, Value}
use Rattle.refusals.specs.declared.Fault.{Fault}
use Rattle.refusals.specs.declared.Fault.TheVariants as fault

-- The first where the test holds, else the second.
abbrev pub pick : Bool → Option Code → Option Code → Option Code
pick true a b = a
pick false a b = b

-- The end of a code (document 01, Codes): s bits more, whose number, highest bit first, is added to v.
abbrev pub tail : ℕ → ℕ → ℕ → List ℕ → Option Code
tail s v at bs = pick (leb s (length bs)) (Value (v + number (take s bs)) (at + s)) Cut

-- A code over sizes (document 01, Codes), v being the value so far and `at` the place of the first bit: before each size but
-- the last stands a bit; 0 stops at that size, 1 adds as many values as the size has and goes on to the next.
abbrev pub code : List ℕ → ℕ → ℕ → List ℕ → Option Code
code [] v at bs = Cut
code (s ∷ []) v at bs = tail s v at bs
code (s ∷ t ∷ ss) v at [] = Cut
code (s ∷ t ∷ ss) v at (zero ∷ bs) = tail s v (at + 1) bs
code (s ∷ t ∷ ss) v at (suc b ∷ bs) = code (t ∷ ss) (v + 2 ^ s) (at + 1) bs

-- The code of a row that starts at bit `at` of a map.
abbrev pub code_at : List ℕ → ℕ → Row → Option Code
code_at m at row = code row.sizes row.least at (drop at (map_bits m))

-- A code as it is handed back (document 01, "What a call hands back", Order): refused 1 for a map over the limit, then with the
-- number of a cut for a code that is no value; p: which part of an instruction the code is.
abbrev pub answered : Part → Bool → Option Code → Result Code Fault
answered p true c = Err fault.MapTooLong
answered p false (Value v n) = Found v n
answered p false Cut = Err (cut_reason p)

-- Which part of an instruction the codes over a least value are: the row of the opcodes alone begins at 0.
abbrev pub part_from : ℕ → Part
part_from zero = Opcode
part_from (suc n) = Operand

-- Reading a code of a row, for every map and every bit of it or past it.
abbrev pub read_code : List ℕ → ℕ → Row → Result Code Fault
read_code m at row = answered (part_from row.least) (ltb limit (length m)) (code_at m at row)
