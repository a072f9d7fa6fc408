-- What is promised of every load (document 02, CR 6): "Every load passes the check at width 128, and some address walks 2 × n + 1 instructions."
-- Assumes nothing.
use Rattle.std.specs.Prelude.{ℕ, zero, suc, ◌+◌, ◌*◌, ◌≤◌, ◌<◌, cond, ◌≡◌, List, [], ◌∷◌, ltb, length, take, get_or, Result, Ok}
use Rattle.asmap_program.specs.declared.Kind.TheVariants.{Returned}
use Rattle.asmap_program.specs.Map.{address_bit}
use Rattle.asmap_codes.specs.Bits.{number}
use Rattle.asmap_check.specs.Check.{check_of}
use Rattle.asmap_walk_bits.specs.Walk.{walk_of, summary}
use Rattle.asmap_load.specs.Load.{match_bit, last_number}
use Rattle.asmap_program.specs.Verdict.{Accepted}
use Rattle.refusals.specs.declared.Refusal.{Refusal}

-- The first n bits of the address are the MATCH bits in order.
abbrev pub Begins : ℕ → ℕ → List ℕ → Type 0
Begins s n a = (i : ℕ) → i < n → address_bit a i ≡ match_bit s i

-- So many bytes, the bits b of which are taken from number k on, each byte from its highest bit down (document 01, Codes: the address bits).
abbrev pub octets : ℕ → (ℕ → ℕ) → ℕ → List ℕ
octets zero b k = []
octets (suc n) b k = number (b k ∷ b (k + 1) ∷ b (k + 2) ∷ b (k + 3) ∷ b (k + 4) ∷ b (k + 5) ∷ b (k + 6) ∷ b (k + 7) ∷ []) ∷ octets n b (k + 8)

-- The address that walks a whole load of n pairs: the MATCH bits in order, and zeros behind them.
unfoldable pub whole_address : ℕ → ℕ → List ℕ
whole_address s n = octets 16 (λ (i : ℕ). cond (ltb i n) (match_bit s i) 0) 0

-- The map m, a load of n pairs from the seed s. The check accepts it over every number w of address bits from n on, so at 128, and at 32 where n is
-- at most 32; it counts 2 × n + 1 instructions, and no jump is ever open. Every address that begins with the MATCH bits walks them all, to the RETURN, and there is one.
pub record Passes (s n : ℕ) (m : List ℕ) : Type 0 where
  pub accepted : (w : ℕ) → n ≤ w → check_of m w ≡ Accepted (2 * n + 1) 0
  pub whole_walk : (w : ℕ) → n ≤ w → (a : List ℕ) → Begins s n a
      → summary (walk_of m a w) ≡ record { kind = Returned; number = last_number s n; count = 2 * n + 1; bits = n }
  pub sixteen : length (whole_address s n) ≡ 16
  pub bytes : (i : ℕ) → get_or (whole_address s n) i 0 < 256
  pub begins : Begins s n (whole_address s n)

-- so it is of the bytes that a call wrote, o being the output at exit and r the answer
abbrev pub WritesLoad : ℕ → ℕ → List ℕ → Result ℕ Refusal → Type 0
WritesLoad s n o r = (k : ℕ) → r ≡ Ok k → Passes s n (take k o)
