-- A load (document 02, CR 6): a map that everyone makes again from its seed. Assumes nothing.
use Rattle.std.specs.Prelude.{ℕ, zero, suc, ◌+◌, ◌*◌, ◌%◌, ◌||◌, List, ◌++◌, ltb, eqb}
use Rattle.asmap_program.specs.Map.{RETURN, MATCH, DEFAULT}
use Rattle.asmap_codes.specs.Encode.{instruction_bits}
use Rattle.asmap_bit_writer.specs.Bytes.{bytes_of}
use Rattle.asmap_records.specs.Output.{Making, Made, refuse}
use Rattle.load_draws.specs.Draw.{next, draw, no_load}

-- "Each number is 1 + draw mod 65,536", d being the draw.
abbrev pub number_by : ℕ → ℕ
number_by d = 1 + d % 65536

-- "each MATCH bit is draw mod 2"
abbrev pub bit_by : ℕ → ℕ
bit_by d = d % 2

-- The operand of a one-bit MATCH: a leading one, and below it the bit.
abbrev pub match_by : ℕ → ℕ
match_by d = 2 + bit_by d

-- "A load of n pairs is n times DEFAULT and a one-bit MATCH, then RETURN", each with the next draw, "in the order written": its bits, s being the
-- seed, or the draw before.
unfoldable pub load_bits : ℕ → ℕ → List ℕ
load_bits zero s = instruction_bits RETURN (number_by (next s))
load_bits (suc n) s =
    instruction_bits DEFAULT (number_by (next s)) ++ (instruction_bits MATCH (match_by (next (next s))) ++ load_bits n (next (next s)))

-- The bytes of a load of n pairs from the seed s: "20 for seed 0, … or n over 128".
unfoldable pub load_of : ℕ → ℕ → Making
load_of s n = refuse (eqb s 0 || ltb 128 n) no_load (Made (bytes_of (load_bits n s)))

-- The bit of MATCH number i, from 0 on: draw number 2, 4, 6 and so on.
abbrev pub match_bit : ℕ → ℕ → ℕ
match_bit s i = bit_by (draw (2 * i + 2) s)

-- The number of the RETURN behind n pairs: the last draw.
abbrev pub last_number : ℕ → ℕ → ℕ
last_number s n = number_by (draw (2 * n + 1) s)
