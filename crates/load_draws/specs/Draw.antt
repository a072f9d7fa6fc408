-- The generator of loads (document 02, CR 6). Assumes nothing.
use Rattle.std.specs.Prelude.{ℕ, zero, suc, ◌*◌, ◌/◌, ◌%◌, ◌^◌, cond, eqb, Result, Ok, Err}
use Rattle.std.specs.Int.Bits.{bit_xor}
use Rattle.load_draws.specs.declared.Generator.{Generator}
use Rattle.refusals.specs.declared.Refusal.{Refusal}
use Rattle.refusals.specs.declared.Refusal.TheVariants as refusal

-- "a DEFAULT_SEED of 1"
abbrev pub default_seed : ℕ
default_seed = 1

-- "20 for seed 0, … or n over 128": the one reason for a load that cannot be made.
abbrev pub no_load : Refusal
no_load = refusal.Load

-- s "xored with s × 2^k", "modulo 2^64"
unfoldable pub up : ℕ → ℕ → ℕ
up k s = bit_xor s (s * 2 ^ k % 2 ^ 64)

-- s xored "with s / 2^k rounded down"
unfoldable pub down : ℕ → ℕ → ℕ
down k s = bit_xor s (s / 2 ^ k)

-- The draw after s: "s is xored with s × 2^13, with s / 2^7 rounded down, then with s × 2^17, … each from the s just made, and the draw is s".
unfoldable pub next : ℕ → ℕ
next s = up 17 (down 7 (up 13 s))

-- The draw number i from the seed s, from 1 on; number 0 is the seed.
unfoldable pub draw : ℕ → ℕ → ℕ
draw zero s = s
draw (suc i) s = draw i (next s)

-- The seeded start: "20 for seed 0".
unfoldable pub seeded_by : ℕ → Result Generator Refusal
seeded_by s = cond (eqb s 0) (Err no_load) (Ok (record { state = s }))

-- A draw from a plain number, which is a seeded start and the next draw.
unfoldable pub drawn_after : ℕ → Result ℕ Refusal
drawn_after s = cond (eqb s 0) (Err no_load) (Ok (next s))
