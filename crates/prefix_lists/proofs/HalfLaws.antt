-- Addresses in two halves of 64 bits: with zeros past their first bits. Assumes nothing.
use Prim.Native.Nat.{ℕ, ◌+◌, ◌-◌, ◌*◌, ◌%◌, ◌^◌, ◌≤◌, ◌<◌}
use mathlib.Core.Bool.{Bool, true, false}
use mathlib.Core.Path.{◌≡◌, refl, sym, ap, ◌∙◌}
use native.Mathlib.Nat.{mul_assoc, mul-add-mod_self_right, mod-eq_of_lt}
use native.Mathlib.Omega.{arith}
use lib.Dec.{eqb}
use lib.Pow as pow
use borrow.Author.Tests.{eqb-true, eqb-false, eq-eqb, ne_eqb}
use Rattle.prefix_records.specs.declared.Address.{Address}
use Rattle.prefix_records.specs.models.Cursor.{value_of}

-- two numbers that are 0 together
same-zero : (x y : ℕ) → (x ≡ 0 → y ≡ 0) → (y ≡ 0 → x ≡ 0) → eqb x 0 ≡ eqb y 0
same-zero x y f g = go (eqb x 0) refl
  where
    go : (t : Bool) → eqb x 0 ≡ t → t ≡ eqb y 0
    go true e = sym (eq-eqb y 0 (f (eqb-true x 0 e)))
    go false e = sym (ne_eqb y 0 λ h. eqb-false x 0 e (g h))

-- ---- zeros

-- a number of 64 bits is 0 where its lowest 64 are
pub zeros_all : (x k : ℕ) → x < 2 ^ 64 → k ≡ 64 → eqb x 0 ≡ eqb (x % 2 ^ k) 0
zeros_all x k h e = ap (λ (n : ℕ). eqb n 0) (sym (mod-eq_of_lt h) ∙ ap (λ (n : ℕ). x % 2 ^ n) (sym e))

-- the lower half alone has the bits past a prefix longer than 64
low_bits : (h l k : ℕ) → k ≤ 64 → (h * 2 ^ 64 + l) % 2 ^ k ≡ l % 2 ^ k
low_bits h l k r =
    let e : 64 ≡ (64 - k) + k = omega arith in
    let p : 2 ^ 64 ≡ 2 ^ (64 - k) * 2 ^ k = ap (λ (n : ℕ). 2 ^ n) e ∙ pow.pow-add 2 (64 - k) k in
    ap (λ (n : ℕ). (n + l) % 2 ^ k) (ap (λ (n : ℕ). h * n) p ∙ sym (mul_assoc h (2 ^ (64 - k)) (2 ^ k))) ∙ mul-add-mod_self_right (h * 2 ^ (64 - k)) (2 ^ k) l

-- past a shorter one are bits of the upper half and the whole lower one
high_bits : (h l j : ℕ) → l < 2 ^ 64 → (h * 2 ^ 64 + l) % 2 ^ (j + 64) ≡ h % 2 ^ j * 2 ^ 64 + l
high_bits h l j r =
    pow.mod-pow-add (h * 2 ^ 64 + l) j 64
    ∙ ap (λ (n : ℕ). n % 2 ^ j * 2 ^ 64 + (h * 2 ^ 64 + l) % 2 ^ 64) (pow.high h 64 r)
    ∙ ap (λ (n : ℕ). h % 2 ^ j * 2 ^ 64 + n) (pow.low h 64 r)

module _ (a : Address) (len : ℕ) where
  -- past a prefix longer than 64
  pub past-low : 64 < len → len ≤ 128 → eqb (a.low % 2 ^ (128 - len)) 0 ≡ eqb (value_of a % 2 ^ (128 - len)) 0
  past-low h k = ap (λ (n : ℕ). eqb n 0) (sym (low_bits a.high a.low (128 - len) (omega arith)))

  -- past a shorter one, both halves
  past_both : a.low < 2 ^ 64 → len ≤ 64 → value_of a % 2 ^ (128 - len) ≡ a.high % 2 ^ (64 - len) * 2 ^ 64 + a.low
  past_both r h =
      let e : 128 - len ≡ (64 - len) + 64 = omega arith in
      ap (λ (n : ℕ). value_of a % 2 ^ n) e ∙ high_bits a.high a.low (64 - len) r

  -- a lower half of 0: the upper one decides
  pub past_high : a.low < 2 ^ 64 → len ≤ 64 → a.low ≡ 0 → eqb (a.high % 2 ^ (64 - len)) 0 ≡ eqb (value_of a % 2 ^ (128 - len)) 0
  past_high r h e =
      same-zero (a.high % 2 ^ (64 - len)) (value_of a % 2 ^ (128 - len))
      (λ z. past_both r h ∙ let y = ap (λ (n : ℕ). n * 2 ^ 64) z in omega (arith, y, e))
      (λ z. let y = sym (past_both r h) ∙ z in omega (arith, y))

  -- a one in the lower half is past the prefix
  pub past_ones : a.low < 2 ^ 64 → len ≤ 64 → (a.low ≡ 0 → ⊥) → eqb a.low 0 ≡ eqb (value_of a % 2 ^ (128 - len)) 0
  past_ones r h n =
      same-zero a.low (value_of a % 2 ^ (128 - len)) (λ z. absurd (n z)) (λ z. let y = sym (past_both r h) ∙ z in omega (arith, y))
