-- Addresses in two halves of 64 bits: which half a bit of the value lies in, and steps to where the halves of a subtree start.
-- 2 ^ 64 is a variable where a product of it occurs. Assumes nothing.
use Prim.Native.Nat.{ℕ, suc, ◌+◌, ◌-◌, ◌*◌, ◌/◌, ◌%◌, ◌^◌, ◌≤◌, ◌<◌}
use mathlib.Core.Path.{◌≡◌, sym, ap, subst, ◌∙◌}
use native.Mathlib.Nat.{suc-mul, add-mul, mul-le-mul_right, pow-suc}
use native.Mathlib.Omega.{arith}
use lib.Pow as pow
use Rattle.prefix_records.specs.declared.Address.{Address}
use Rattle.prefix_records.specs.models.Cursor.{value_of}
use Rattle.prefix_records.proofs.CursorLaws.{power_of}

-- ---- the power that a step is

-- one shifted by k places in the upper half is 2 ^ (k + 64) in the value
shifted : (n k : ℕ) → k < 64 → n ≡ k + 64 → 2 ^ n ≡ 1 * 2 ^ k % 2 ^ 64 * 2 ^ 64
shifted n k f e = ap (λ (i : ℕ). 2 ^ i) e ∙ pow.pow-add 2 k 64 ∙ ap (λ (s : ℕ). s * 2 ^ 64) (sym (power_of k f))

-- ---- which half the bits lie in

module _ (h l : ℕ) (half : l < 2 ^ 64) where
  -- without its lower 64 bits the value is the upper half
  upper : (h * 2 ^ 64 + l) / 2 ^ 64 ≡ h
  upper = pow.high h 64 half

  -- from place 64 on the bits are those of the upper half
  upper-bits : (n k : ℕ) → n ≡ 64 + k → (h * 2 ^ 64 + l) / 2 ^ n ≡ h / 2 ^ k
  upper-bits n k e =
      ap (λ (i : ℕ). (h * 2 ^ 64 + l) / 2 ^ i) e ∙ sym (pow.shr-shr (h * 2 ^ 64 + l) 64 k) ∙ ap (λ (x : ℕ). x / 2 ^ k) upper

  -- the lower k bits, at most 64 of them, are those of the lower half
  lower_rest : (k : ℕ) → k ≤ 64 → (h * 2 ^ 64 + l) % 2 ^ k ≡ l % 2 ^ k
  lower_rest k le =
      let e : 64 ≡ (64 - k) + k = omega arith in
      sym (pow.mod-mod-pow (h * 2 ^ 64 + l) (64 - k) k)
      ∙ ap (λ (i : ℕ). (h * 2 ^ 64 + l) % 2 ^ i % 2 ^ k) (sym e)
      ∙ ap (λ (x : ℕ). x % 2 ^ k) (pow.low h 64 half)

  -- below place 64 a bit is that of the lower half
  lower_bit : (k : ℕ) → k < 64 → (h * 2 ^ 64 + l) / 2 ^ k % 2 ≡ l / 2 ^ k % 2
  lower_bit k le =
      sym (pow.field (h * 2 ^ 64 + l) 1 k) ∙ ap (λ (x : ℕ). x / 2 ^ k) (lower_rest (1 + k) (omega arith)) ∙ pow.field l 1 k

  -- where more than 64 of the lower bits are zeros, those of the upper half among them are
  upper_rest : (n k : ℕ) → n ≡ k + 64 → (h * 2 ^ 64 + l) % 2 ^ n ≡ 0 → h % 2 ^ k ≡ 0
  upper_rest n k e z =
      let s = pow.mod-pow-add (h * 2 ^ 64 + l) k 64 in
      let zero = sym s ∙ ap (λ (i : ℕ). (h * 2 ^ 64 + l) % 2 ^ i) (sym e) ∙ z in
      ap (λ (x : ℕ). x % 2 ^ k) (sym upper) ∙ none ((h * 2 ^ 64 + l) / 2 ^ 64 % 2 ^ k) ((h * 2 ^ 64 + l) % 2 ^ 64) zero
    where
      -- a sum that is 0 has no part but 0
      none : (x y : ℕ) → x * 2 ^ 64 + y ≡ 0 → x ≡ 0
      none x y f = omega arith

-- ---- steps

-- from a multiple of 2 ^ (m + 1) a step of 2 ^ m stays below 2 ^ 64
step_fits : (x m n : ℕ) → n ≡ suc m → m < 64 → x < 2 ^ 64 → x % 2 ^ n ≡ 0 → x + 2 ^ m < 2 ^ 64
step_fits x m n q h f z =
    let e : 64 ≡ (63 - m) + n = omega arith in
    let below = pow.shr_lt {n = x} (63 - m) n (subst (λ (i : ℕ). x < 2 ^ i) e f) in
    let room = mul-le-mul_right (2 ^ n) below in
    let whole = ap (λ (i : ℕ). 2 ^ i) e ∙ pow.pow-add 2 (63 - m) n in
    let double = ap (λ (i : ℕ). 2 ^ i) q ∙ pow-suc 2 m in
    omega (arith, room, whole, double, z, pow.split x n, suc-mul (x / 2 ^ n) (2 ^ n), pow.pow_pos m)

-- a bit that is 1 can be taken off
bit_there : (x k : ℕ) → x / 2 ^ k % 2 ≡ 1 → 2 ^ k ≤ x
bit_there x k e =
    let one : 1 ≤ x / 2 ^ k = omega arith in
    let m = mul-le-mul_right (2 ^ k) one in
    omega (arith, m, pow.split x k)

-- over b for 2 ^ 64: a step up in the upper half
high_sum : (b h l s p : ℕ) → p ≡ s * b → (h + s) * b + l ≡ h * b + l + p
high_sum b h l s p e = omega (arith, add-mul h s b)

-- over b for 2 ^ 64: a step down in the upper half
high_less : (b h l s p : ℕ) → s ≤ h → p ≡ s * b → (h - s) * b + l ≡ h * b + l - p
high_less b h l s p f e =
    let w : (h - s) + s ≡ h = omega arith in
    let m = sym (add-mul (h - s) s b) ∙ ap (λ (x : ℕ). x * b) w in
    omega (arith, m)

-- a step up in the lower half, over v for what the upper half is worth
low_sum : (v l s p : ℕ) → s ≡ p → v + (l + s) ≡ v + l + p
low_sum v l s p e = omega arith

-- a step down in the lower half, over v for what the upper half is worth
low_less : (v l s p : ℕ) → s ≤ l → s ≡ p → v + (l - s) ≡ v + l - p
low_less v l s p f e = omega arith

-- ---- steps and bits of an address, at a subtree of d bits

module _ (a : Address) (d : ℕ) (half : a.low < 2 ^ 64) where
  -- the half with bit 1, with d below 64: it starts a step further in the upper half, which holds the sum
  pub one_high-fits : a.high < 2 ^ 64 → d < 64 → value_of a % 2 ^ (128 - d) ≡ 0 → a.high + 1 * 2 ^ (63 - d) % 2 ^ 64 < 2 ^ 64
  one_high-fits f k z =
      let zeros = upper_rest a.high a.low half (128 - d) (64 - d) (omega arith) z in
      let sum = step_fits a.high (63 - d) (64 - d) (omega arith) (omega arith) f zeros in
      subst (λ (s : ℕ). a.high + s < 2 ^ 64) (sym (power_of (63 - d) (omega arith))) sum

  -- that step is the one in the value
  pub one_high : d < 64 → (a.high + 1 * 2 ^ (63 - d) % 2 ^ 64) * 2 ^ 64 + a.low ≡ value_of a + 2 ^ (127 - d)
  one_high k = high_sum (2 ^ 64) a.high a.low _ _ (shifted (127 - d) (63 - d) (omega arith) (omega arith))

  -- with d from 64 on: it starts a step further in the lower half, which holds the sum
  pub one-low-fits : d < 128 → 64 ≤ d → value_of a % 2 ^ (128 - d) ≡ 0 → a.low + 1 * 2 ^ (127 - d) % 2 ^ 64 < 2 ^ 64
  one-low-fits f k z =
      let zeros = sym (lower_rest a.high a.low half (128 - d) (omega arith)) ∙ z in
      let sum = step_fits a.low (127 - d) (128 - d) (omega arith) (omega arith) half zeros in
      subst (λ (s : ℕ). a.low + s < 2 ^ 64) (sym (power_of (127 - d) (omega arith))) sum

  -- that step is the one in the value
  pub one-low : d < 128 → 64 ≤ d → a.high * 2 ^ 64 + (a.low + 1 * 2 ^ (127 - d) % 2 ^ 64) ≡ value_of a + 2 ^ (127 - d)
  one-low f k = low_sum (a.high * 2 ^ 64) a.low _ _ (power_of (127 - d) (omega arith))

  -- the last of the d bits, with d up to 64: it lies in the upper half
  pub last_high : d < 65 → value_of a / 2 ^ (128 - d) % 2 ≡ a.high / 2 ^ (64 - d) % 2
  last_high k = ap (λ (x : ℕ). x % 2) (upper-bits a.high a.low half (128 - d) (64 - d) (omega arith))

  -- with d above 64: it lies in the lower half
  pub last-low : 65 ≤ d → value_of a / 2 ^ (128 - d) % 2 ≡ a.low / 2 ^ (128 - d) % 2
  last-low k = lower_bit a.high a.low half (128 - d) (omega arith)

  -- the half with bit 0 beside a half with bit 1, with d up to 64: the step back is in the upper half, which has that bit
  pub zero_high-fits : 1 ≤ d → d < 65 → value_of a / 2 ^ (128 - d) % 2 ≡ 1 → 1 * 2 ^ (64 - d) % 2 ^ 64 ≤ a.high
  zero_high-fits f k e =
      let there = bit_there a.high (64 - d) (sym (last_high k) ∙ e) in
      subst (λ (s : ℕ). s ≤ a.high) (sym (power_of (64 - d) (omega arith))) there

  -- that step is the one in the value
  pub zero_high : 1 ≤ d → d < 65 → value_of a / 2 ^ (128 - d) % 2 ≡ 1 → (a.high - 1 * 2 ^ (64 - d) % 2 ^ 64) * 2 ^ 64 + a.low ≡ value_of a - 2 ^ (128 - d)
  zero_high f k e = high_less (2 ^ 64) a.high a.low _ _ (zero_high-fits f k e) (shifted (128 - d) (64 - d) (omega arith) (omega arith))

  -- with d above 64: the step back is in the lower half, which has that bit
  pub zero-low-fits : 65 ≤ d → value_of a / 2 ^ (128 - d) % 2 ≡ 1 → 1 * 2 ^ (128 - d) % 2 ^ 64 ≤ a.low
  zero-low-fits k e =
      let there = bit_there a.low (128 - d) (sym (last-low k) ∙ e) in
      subst (λ (s : ℕ). s ≤ a.low) (sym (power_of (128 - d) (omega arith))) there

  -- that step is the one in the value
  pub zero-low : 65 ≤ d → value_of a / 2 ^ (128 - d) % 2 ≡ 1 → a.high * 2 ^ 64 + (a.low - 1 * 2 ^ (128 - d) % 2 ^ 64) ≡ value_of a - 2 ^ (128 - d)
  zero-low k e = low_less (a.high * 2 ^ 64) a.low _ _ (zero-low-fits k e) (power_of (128 - d) (omega arith))
