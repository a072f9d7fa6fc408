-- What encode_bits computes of a code's parts is the code's number, and its bits fit 64 after an opcode's. Assumes nothing.
use mathlib.Core.Path.{◌≡◌, ◌∙◌, ap, ap₂}
use Prim.Native.Nat.{ℕ, ◌+◌, ◌-◌, ◌*◌, ◌/◌, ◌%◌, ◌^◌, ◌≤◌, ◌<◌}
use native.Mathlib.Nat.{one-mul, div-one}
use native.Mathlib.Omega.{arith}
use lib.Dec.{lit<}
use lib.Pow.{shl_exact}
use Rattle.asmap_codes.specs.models.Reverse.{rev}
use Rattle.asmap_encode.specs.models.Words.{Short, number_of}
use Rattle.asmap_code_parts.specs.declared.Parts.{Parts}
use Rattle.asmap_codes.proofs.ReverseLaws.{rev_lt}
use Rattle.asmap_encode.proofs.WordLaws.{shifted, window-fits, number_lt}

module _ (pre : ℕ) (p : Parts) (h : Short pre p) where
  ones-shifted : 1 * 2 ^ p.ones % 2 ^ 64 ≡ 2 ^ p.ones
  ones-shifted = shl_exact 1 p.ones 64 (lit< tt) (omega (arith, h.ones, h.prefix)) ∙ one-mul (2 ^ p.ones)

  pub computed : (r : ℕ) → r ≡ rev p.size (p.rest / 2 ^ 0) → 1 * 2 ^ p.ones % 2 ^ 64 - 1 + r * 2 ^ pre % 2 ^ 64 ≡ number_of pre p
  computed r e =
      ap₂ (λ (i j : ℕ). i - 1 + j * 2 ^ pre % 2 ^ 64) ones-shifted (e ∙ ap (rev p.size) (div-one p.rest))
      ∙ ap (λ (i : ℕ). 2 ^ p.ones - 1 + i) (shifted (rev p.size p.rest) p.size pre (rev_lt p.size p.rest) (omega (arith, h.prefix, h.size)))

  -- after the n bits of a word
  module _ (n : ℕ) (l : n ≤ 3) where
    pub above : number_of pre p * 2 ^ n % 2 ^ 64 ≡ number_of pre p * 2 ^ n
    above = shifted (number_of pre p) (pre + p.size) n (number_lt pre p h.ones) (omega (arith, h.prefix, h.size))

    pub word_fits : (w : ℕ) → w < 2 ^ n → w + number_of pre p * 2 ^ n < 2 ^ 64
    word_fits w k = window-fits w n (number_of pre p) (pre + p.size) k (number_lt pre p h.ones) (omega (arith, h.prefix, h.size))
