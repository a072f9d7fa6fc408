-- Bits in reverse, and blocks of bits swapped, by which a word's bits are reversed.
-- No promise speaks of these. Assumes nothing.
use Rattle.std.specs.Prelude.{ℕ, ◌+◌, ◌*◌, ◌/◌, ◌^◌}
use Rattle.std.specs.Int.Bits.{bit_and}
use Rattle.asmap_codes.specs.Bits.{high, word}

-- The n lowest bits of x in reverse.
abbrev pub rev : ℕ → ℕ → ℕ
rev n x = word (high n x)

-- Blocks of k bits, each swapped with its neighbour; the mask m has the lower one of each two.
abbrev pub swap : ℕ → ℕ → ℕ → ℕ
swap k m x = bit_and (x / 2 ^ k) m + bit_and x m * 2 ^ k
