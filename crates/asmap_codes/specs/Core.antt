-- Bitcoin Core's DecodeBits (util/asmap.cpp, as the paper core-asmap.md tells it), bit by bit, with INVALID where the file ends
-- too soon; a map's bytes as the file of Core's functions; and what it means that Core reads what we read. Only the promises
-- named `core`, and the theorems behind them, speak of these. Assumes nothing.
use Rattle.std.specs.Prelude.{ℕ, zero, suc, ◌+◌, ◌*◌, ◌^◌, ◌≤◌, ◌<◌, ◌≡◌, cond, List, [], ◌∷◌, eqb, length, get_or, Result, Err, Option}
use Rattle.asmap_program.specs.Map.{limit}
use Rattle.asmap_program.specs.Core.{Read, File, INVALID}
use Rattle.asmap_codes.specs.Bits.{map_bits}
use Rattle.asmap_codes.specs.Reading.{Code, Cut, Found, Value}
use Rattle.refusals.specs.declared.Fault.{Fault}

-- B: the file's bits. pos: bitpos. v: the value so far.
module _ (B : List ℕ) where
  -- The mantissa: n bits, weighed 2 ^ (n - 1) down to 1; INVALID where bitpos meets the file's end before the last.
  unfoldable pub mantissa : ℕ → ℕ → ℕ → Read
  mantissa zero v pos = record { value = v; pos = pos }
  mantissa (suc n) v pos =
      cond (eqb pos (length B)) (record { value = INVALID; pos = pos }) (mantissa n (v + get_or B pos 0 * 2 ^ n) (suc pos))

  -- The exponent: a bit for each size but the last, INVALID where the file has none; 1 goes on to the next size, 0 and the
  -- last size to the mantissa.
  unfoldable pub decode_bits : List ℕ → ℕ → ℕ → Read
  decode_bits [] v pos = record { value = INVALID; pos = pos }
  decode_bits (s ∷ []) v pos = mantissa s v pos
  decode_bits (s ∷ t ∷ ss) v pos =
      cond (eqb pos (length B)) (record { value = INVALID; pos = pos })
      (cond (eqb (get_or B pos 0) 1) (decode_bits (t ∷ ss) (v + 2 ^ s) (suc pos)) (mantissa s v (suc pos)))

-- Core's answer for a code of ours: its value and the bit after it, or INVALID for a cut one.
abbrev pub Agrees : Option Code → Read → Type 0
Agrees (Value v n) r = r ≡ record { value = v; pos = n }
Agrees Cut r = r.value ≡ INVALID

-- A map's bytes as a file: its bits, and the four decoders with Core's own numbers.
unfoldable pub file_of : List ℕ → File
file_of m = record {
  endpos = length (map_bits m);
  bit = λ (p : ℕ). get_or (map_bits m) p 0;
  decode_type = λ (p : ℕ). decode_bits (map_bits m) (0 ∷ 0 ∷ 1 ∷ []) 0 p;
  decode_asn = λ (p : ℕ). decode_bits (map_bits m) (15 ∷ 16 ∷ 17 ∷ 18 ∷ 19 ∷ 20 ∷ 21 ∷ 22 ∷ 23 ∷ 24 ∷ []) 1 p;
  decode_match = λ (p : ℕ). decode_bits (map_bits m) (1 ∷ 2 ∷ 3 ∷ 4 ∷ 5 ∷ 6 ∷ 7 ∷ 8 ∷ []) 2 p;
  decode_jump = λ (p : ℕ). decode_bits (map_bits m) (5 ∷ 6 ∷ 7 ∷ 8 ∷ 9 ∷ 10 ∷ 11 ∷ 12 ∷ 13 ∷ 14 ∷ 15 ∷ 16 ∷ 17 ∷ 18 ∷ 19 ∷ 20 ∷ 21 ∷ 22 ∷ 23 ∷ 24 ∷ 25 ∷ 26 ∷ 27 ∷ 28 ∷ 29 ∷ 30 ∷ []) 17 p;
}

-- What a call that reads a code hands back, beside Core's answer: the value, which is never INVALID, and the bit after it; or a
-- refusal, where Core says INVALID.
abbrev pub SameRead : Result Code Fault → Read → Type 0
SameRead (Found v n) r = (r ≡ record { value = v; pos = n }) × (v < INVALID)
SameRead (Err k) r = r.value ≡ INVALID

-- The same of a map within the limit, which is document 01's and not Core's, and from a bit up to the map's end, past which Core
-- never reads.
abbrev pub CoreReads : List ℕ → ℕ → Result Code Fault → Read → Type 0
CoreReads m at got r = length m ≤ limit → at ≤ 8 * length m → SameRead got r
