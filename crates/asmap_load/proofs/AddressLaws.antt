-- The address of sixteen bytes made of bits: how long it is, its bytes, its bits. Assumes nothing.
use mathlib.Core.Path.{◌≡◌, ◌∙◌, refl, ap}
use mathlib.Core.Bool.{Bool, true, false, cond}
use mathlib.Core.List.{[], ◌∷◌}
use Prim.Native.Nat.{ℕ, zero, suc, ◌+◌, ◌-◌, ◌*◌, ◌/◌, ◌%◌, ◌≤◌, ◌<◌}
use native.Mathlib.Omega.{arith}
use borrow.Author.Tests.{lt-ltb}
use lib.Dec.{ltb, lit<}
use lib.ListN.{length, get_or}
use Rattle.asmap_program.specs.Map.{bit_of, address_bit}
use Rattle.asmap_codes.specs.Bits.{number}
use Rattle.asmap_load.specs.Load.{match_bit}
use Rattle.asmap_load.specs.Promise.{Begins, octets, whole_address}

-- eight bits in a byte, the first highest
abbrev octet : (ℕ → ℕ) → ℕ → ℕ
octet b k = number (b k ∷ b (k + 1) ∷ b (k + 2) ∷ b (k + 3) ∷ b (k + 4) ∷ b (k + 5) ∷ b (k + 6) ∷ b (k + 7) ∷ [])

module _ (b : ℕ → ℕ) (two : (i : ℕ) → b i < 2) where
  eight : (k : ℕ) → (b k < 2) × (b (k + 1) < 2) × (b (k + 2) < 2) × (b (k + 3) < 2) × (b (k + 4) < 2) × (b (k + 5) < 2) × (b (k + 6) < 2) × (b (k + 7) < 2)
  eight k = (two k, two (k + 1), two (k + 2), two (k + 3), two (k + 4), two (k + 5), two (k + 6), two (k + 7))

  octet_lt : (k : ℕ) → octet b k < 256
  octet_lt k = omega (arith, eight k)

  -- bit j of the byte, from its highest down
  octet_bit : (k j : ℕ) → j < 8 → bit_of (octet b k) (7 - j) ≡ b (k + j)
  octet_bit k zero h = let e : k + 0 ≡ k = omega arith in rw e (omega (arith, eight k))
  octet_bit k (suc zero) h = omega (arith, eight k)
  octet_bit k (suc (suc zero)) h = omega (arith, eight k)
  octet_bit k (suc (suc (suc zero))) h = omega (arith, eight k)
  octet_bit k (suc (suc (suc (suc zero)))) h = omega (arith, eight k)
  octet_bit k (suc (suc (suc (suc (suc zero))))) h = omega (arith, eight k)
  octet_bit k (suc (suc (suc (suc (suc (suc zero)))))) h = omega (arith, eight k)
  octet_bit k (suc (suc (suc (suc (suc (suc (suc zero))))))) h = omega (arith, eight k)
  octet_bit k (suc (suc (suc (suc (suc (suc (suc (suc j)))))))) h = absurd (omega arith)

  octets_lt : (n k i : ℕ) → get_or (octets n b k) i 0 < 256
  octets_lt zero k i = lit< tt
  octets_lt (suc n) k zero = octet_lt k
  octets_lt (suc n) k (suc i) = octets_lt n (k + 8) i

  octets_at : (n k i : ℕ) → i < n → get_or (octets n b k) i 0 ≡ octet b (k + 8 * i)
  octets_at zero k i h = absurd (omega arith)
  octets_at (suc n) k zero h = let e : k ≡ k + 8 * 0 = omega arith in ap (octet b) e
  octets_at (suc n) k (suc i) h = let e : k + 8 + 8 * i ≡ k + 8 * suc i = omega arith in octets_at n (k + 8) i (omega arith) ∙ ap (octet b) e

  octets_bit : (i : ℕ) → i < 128 → address_bit (octets 16 b 0) i ≡ b i
  octets_bit i h =
      let e : 0 + 8 * (i / 8) + i % 8 ≡ i = omega arith in
      ap (λ (x : ℕ). bit_of x (7 - i % 8)) (octets_at 16 0 (i / 8) (omega arith))
      ∙ octet_bit (0 + 8 * (i / 8)) (i % 8) (omega arith)
      ∙ ap b e

-- ---- the address of a load

abbrev bits : ℕ → ℕ → ℕ → ℕ
bits s n i = cond (ltb i n) (match_bit s i) 0

bits_two : (s n i : ℕ) → bits s n i < 2
bits_two s n i = go (ltb i n)
  where
    go : (t : Bool) → cond t (match_bit s i) 0 < 2
    go true = omega arith
    go false = lit< tt

pub whole_length : (s n : ℕ) → length (whole_address s n) ≡ 16
unfolding whole_address
whole_length s n = refl

pub whole-bytes : (s n i : ℕ) → get_or (whole_address s n) i 0 < 256
unfolding whole_address
whole-bytes s n i = octets_lt (bits s n) (bits_two s n) 16 0 i

pub whole-begins : (s n : ℕ) → n ≤ 128 → Begins s n (whole_address s n)
unfolding whole_address
whole-begins s n h i k = octets_bit (bits s n) (bits_two s n) i (omega arith) ∙ rw (lt-ltb i n k)
