-- Bits of the address as one number: those that stand in two bytes, and those that a MATCH compares.
-- Assumes nothing.
use Prim.Native.Nat.{ℕ, zero, suc, ◌+◌, ◌-◌, ◌*◌, ◌/◌, ◌%◌, ◌^◌, ◌≤◌, ◌<◌}
use mathlib.Core.Path.{◌≡◌, refl, sym, ap, ◌∙◌}
use mathlib.Core.Logic.{◌≢◌}
use mathlib.Core.List.{List}
use native.Mathlib.Nat.{div-eq_of_lt, pow-succ'}
use native.Mathlib.Decide.{dec_lt}
use native.Mathlib.Omega.{arith}
use lib.Bits.{bit_xor, xor_zero_r, xor_self, xor_shr, xor_mod}
use lib.Pow.{pow_mono, high, shr-shr, field, mod-mod-pow}
use lib.ListN.{get_or}
use Rattle.asmap_program.specs.Map.{bit_of, address_bit, Width}
use Rattle.asmap_codes.proofs.GrownLaws.{pow_inverse}
use Rattle.asmap_window.proofs.ByteLaws.{bit_below, bit_above}

-- of n address bits from bit `at` on, that of weight 2 ^ k
pub two_bytes : (a : List ℕ) (at n k first second : ℕ) → n ≤ 8 → k < n → first ≡ get_or a (at / 8) 0 → second ≡ get_or a (at / 8 + 1) 0 → second < 256
    → bit_of ((first * 256 + second) / 2 ^ (16 - at % 8 - n)) k ≡ address_bit a (at + (n - 1 - k))
two_bytes a at n k first second h l p q s =
    let e : first * 256 + second ≡ second + 256 * first = omega arith in
    ap (λ (x : ℕ). x % 2) (shr-shr (first * 256 + second) (16 - at % 8 - n) k)
    ∙ ap (λ (x : ℕ). x / 2 ^ (16 - at % 8 - n + k) % 2) e
    ∙ go (dec_lt (at % 8 + (n - 1 - k)) 8)
  where
    go : Dec (at % 8 + (n - 1 - k) < 8) → (second + 256 * first) / 2 ^ (16 - at % 8 - n + k) % 2 ≡ address_bit a (at + (n - 1 - k))
    go (yes r) =
        let e : 16 - at % 8 - n + k ≡ 8 + (7 - (at + (n - 1 - k)) % 8) = omega arith in
        let f : at / 8 ≡ (at + (n - 1 - k)) / 8 = omega arith in
        ap (λ (x : ℕ). (second + 256 * first) / 2 ^ x % 2) e
        ∙ bit_above second first (7 - (at + (n - 1 - k)) % 8) s
        ∙ ap (λ (x : ℕ). bit_of x (7 - (at + (n - 1 - k)) % 8)) (p ∙ ap (λ (x : ℕ). get_or a x 0) f)
    go (no r) =
        let e : 16 - at % 8 - n + k ≡ 7 - (at + (n - 1 - k)) % 8 = omega arith in
        let f : at / 8 + 1 ≡ (at + (n - 1 - k)) / 8 = omega arith in
        ap (λ (x : ℕ). (second + 256 * first) / 2 ^ x % 2) e
        ∙ bit_below second first (7 - (at + (n - 1 - k)) % 8) (omega arith)
        ∙ ap (λ (x : ℕ). bit_of x (7 - (at + (n - 1 - k)) % 8)) (q ∙ ap (λ (x : ℕ). get_or a x 0) f)

-- a bit of a number is that of its lowest n, where it is one of them
low_bit : (y n k : ℕ) → k < n → y % 2 ^ n / 2 ^ k % 2 ≡ bit_of y k
low_bit y n k h =
    let e : n ≡ n - 1 - k + 1 + k = omega arith in
    ap (λ (j : ℕ). y % 2 ^ j / 2 ^ k % 2) e
    ∙ ap (λ (z : ℕ). z % 2) (field y (n - 1 - k + 1) k)
    ∙ mod-mod-pow (y / 2 ^ k) (n - 1 - k) 1

-- two numbers with the same n lowest bits have each of them the same
pub same_low : (x y n k : ℕ) → y % 2 ^ n ≡ x % 2 ^ n → k < n → bit_of x k ≡ bit_of y k
same_low x y n k h l = sym (low_bit x n k l) ∙ ap (λ (z : ℕ). z / 2 ^ k % 2) (sym h) ∙ low_bit y n k l

-- two bits that do not differ
no_difference : (u v : ℕ) → u < 2 → v < 2 → bit_xor u v ≡ 0 → u ≡ v
no_difference zero zero h l e = refl
no_difference zero (suc v) h l e = absurd (omega arith)
no_difference (suc u) zero h l e = absurd (omega (arith, sym (xor_zero_r (suc u)) ∙ e))
no_difference (suc u) (suc v) h l e = omega arith

-- a number from 2 ^ k to below twice that
div_once : (x k : ℕ) → 2 ^ k ≤ x → x < 2 ^ suc k → x / 2 ^ k ≡ 1
div_once x k h l =
    let d = pow-succ' 2 k in
    let e : x ≡ 1 * 2 ^ k + (x - 2 ^ k) = omega arith in
    ap (λ (i : ℕ). i / 2 ^ k) e ∙ high 1 k (omega (arith, d))

-- n bits are at most n wide
pub width_most : (x n r : ℕ) → Width x r → x < 2 ^ n → r ≤ n
width_most x n r w h = go (dec_lt 0 x)
  where
    go : Dec (0 < x) → r ≤ n
    go (yes l) = omega (arith, pow_inverse (r - 1) n (omega (arith, w.low l)))
    go (no l) = omega (arith, w.none (omega arith))

-- a bit of what differs is where the bits differ
differing_bit : (a b k : ℕ) → bit_xor a b / 2 ^ k % 2 ≡ bit_xor (bit_of a k) (bit_of b k)
differing_bit a b k = ap (λ (x : ℕ). x % 2) (xor_shr a b k) ∙ xor_mod (a / 2 ^ k) (b / 2 ^ k) 1

-- Of n bits of two numbers, those above the width of what differs are the same, and the next is not.
module _ (a b n r : ℕ) (w : Width (bit_xor a b % 2 ^ n) (n - r)) where
  pub front_same : (k : ℕ) → k < n → n ≤ k + r → bit_of a k ≡ bit_of b k
  front_same k h l =
      let z : bit_xor a b % 2 ^ n / 2 ^ k ≡ 0 = div-eq_of_lt (omega (arith, w.high, pow_mono {i = n - r} {j = k} (omega arith))) in
      no_difference (bit_of a k) (bit_of b k) (omega arith) (omega arith) (sym (differing_bit a b k) ∙ sym (low_bit (bit_xor a b) n k h) ∙ ap (λ (x : ℕ). x % 2) z)

  pub front_differs : r < n → bit_of a (n - 1 - r) ≢ bit_of b (n - 1 - r)
  front_differs h e =
      let k = n - 1 - r in
      let x = bit_xor a b % 2 ^ n in
      let s : 0 < x = go (dec_lt 0 x) in
      let p : n - r ≡ suc k = omega arith in
      let q : n - r - 1 ≡ k = omega arith in
      let u : 2 ^ k ≤ x = rw q at (w.low s) in
      let v : x < 2 ^ suc k = rw p at w.high in
      let one : x / 2 ^ k ≡ 1 = div_once x k u v in
      let d : bit_xor (bit_of a k) (bit_of b k) ≡ 0 = ap (λ (y : ℕ). bit_xor y (bit_of b k)) e ∙ xor_self (bit_of b k) in
      absurd (omega (arith, sym (ap (λ (y : ℕ). y % 2) one) ∙ low_bit (bit_xor a b) n k (omega arith) ∙ differing_bit a b k ∙ d))
    where
      go : Dec (0 < bit_xor a b % 2 ^ n) → 0 < bit_xor a b % 2 ^ n
      go (yes l) = l
      go (no l) = absurd (omega (arith, w.none (omega arith)))
