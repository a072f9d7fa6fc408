-- Bits in reverse: a number's bits highest first, read as a word, come from swapping neighbouring blocks of bits (swap_lanes).
-- Assumes nothing.
use mathlib.Core.Path.{◌≡◌, ◌∙◌, refl, sym, ap, ap₂}
use Prim.Native.Nat.{ℕ, zero, suc, ◌+◌, ◌-◌, ◌*◌, ◌/◌, ◌%◌, ◌^◌, ◌≤◌, ◌<◌}
use native.Mathlib.Nat.{pow-succ', mul_assoc, mul_comm, mul-add, add-mul, suc-mul, mul-zero, div-one, mod-lt, mod-eq_of_lt, mul-le-mul_right}
use native.Mathlib.Omega.{arith}
use lib.Bits.{bit_and, and_block, and_mask, and_zero_r, and_le_r}
use lib.Dec.{lit<}
use lib.Pow as pow
use lib.Pow.{pow_pos, pow_mono, pow-add, shr-shr, split}
use Rattle.asmap_codes.specs.Bits.{low, number}
use Rattle.asmap_codes.specs.models.Reverse.{rev, swap}
use Rattle.asmap_codes.proofs.BitLaws.{length-low}

pub rev_lt : (n x : ℕ) → rev n x < 2 ^ n
rev_lt zero x = lit< tt
rev_lt (suc n) x = rw (pow-succ' 2 n) (omega (arith, rev_lt n x))

-- the higher bits come first
pub rev_add : (n k x : ℕ) → rev (n + k) x ≡ rev n (x / 2 ^ k) + 2 ^ n * rev k x
rev_add zero k x = let e : 0 + k ≡ k = omega arith in rw e (omega arith)
rev_add (suc n) k x =
    let e : suc n + k ≡ suc (n + k) = omega arith in
    let c : k + n ≡ n + k = omega arith in
    let q : x / 2 ^ k / 2 ^ n ≡ x / 2 ^ (n + k) = shr-shr x k n ∙ ap (λ (i : ℕ). x / 2 ^ i) c in
    let m : 2 ^ suc n * rev k x ≡ 2 * (2 ^ n * rev k x) = rw (pow-succ' 2 n) (mul_assoc 2 (2 ^ n) (rev k x)) in
    rw e (omega (arith, rev_add n k x, ap (λ (i : ℕ). i % 2) q, m))

-- of n + k reversed bits, the highest k are the lowest k of the number, reversed
pub rev_high : (n k x : ℕ) → rev (n + k) x / 2 ^ n ≡ rev k x
rev_high n k x =
    let e : rev (n + k) x ≡ rev k x * 2 ^ n + rev n (x / 2 ^ k) = rev_add n k x ∙ omega (arith, mul_comm (2 ^ n) (rev k x)) in
    ap (λ (i : ℕ). i / 2 ^ n) e ∙ pow.high (rev k x) n (rev_lt n (x / 2 ^ k))

-- the number that bits write, the highest first, is the bits in reverse
pub number-rev : (n x : ℕ) → number (low n x) ≡ rev n x
number-rev zero x = refl
number-rev (suc n) x =
    let e : n + 1 ≡ suc n = omega arith in
    let o : rev 1 x ≡ x % 2 = omega (arith, div-one x) in
    let h : rev (suc n) x ≡ rev n (x / 2) + 2 ^ n * rev 1 x = ap (λ (i : ℕ). rev i x) (sym e) ∙ rev_add n 1 x in
    omega (arith, number-rev n (x / 2), h, ap (λ (i : ℕ). 2 ^ n * i) o, ap (λ (i : ℕ). x % 2 * 2 ^ i) (length-low n (x / 2)), mul_comm (2 ^ n) (x % 2))

-- n + k reversed bits k places up, of which n + k are kept: the k lowest of the number fall away
rev-up : (n k x : ℕ) → rev (n + k) x * 2 ^ k % 2 ^ (n + k) ≡ rev n (x / 2 ^ k) * 2 ^ k
rev-up n k x =
    let R = rev n (x / 2 ^ k) in
    let S = rev k x in
    let l : R * 2 ^ k < 2 ^ (n + k) = rw (pow-add 2 n k) (omega (arith, mul-le-mul_right {m = suc R} {n = 2 ^ n} (2 ^ k) (rev_lt n (x / 2 ^ k)), suc-mul R (2 ^ k), pow_pos k)) in
    let q : 2 ^ n * S * 2 ^ k ≡ S * 2 ^ (n + k) = ap (λ (i : ℕ). i * 2 ^ k) (mul_comm (2 ^ n) S) ∙ mul_assoc S (2 ^ n) (2 ^ k) ∙ ap (λ (i : ℕ). S * i) (sym (pow-add 2 n k)) in
    let e : rev (n + k) x * 2 ^ k ≡ S * 2 ^ (n + k) + R * 2 ^ k = ap (λ (i : ℕ). i * 2 ^ k) (rev_add n k x) ∙ omega (arith, add-mul R (2 ^ n * S) (2 ^ k), q) in
    ap (λ (i : ℕ). i % 2 ^ (n + k)) e ∙ pow.low S (n + k) l

-- of a reversed word, s bits from bit k of the number on: first k places up, then down again
pub rev_from : (k s x : ℕ) → k + s ≤ 64 → s ≤ 32 → rev 64 x * 2 ^ k % 2 ^ 64 / 2 ^ 32 / 2 ^ (32 - s) ≡ rev s (x / 2 ^ k)
rev_from k s x h l =
    let c = 64 - k - s in
    let y = x / 2 ^ k in
    let e : 64 ≡ c + s + k = omega arith in
    let d : 32 + (32 - s) ≡ k + c = omega arith in
    let z : rev (c + s) y * 2 ^ k ≡ rev (c + s) y * 2 ^ k + 0 = omega arith in
    shr-shr (rev 64 x * 2 ^ k % 2 ^ 64) 32 (32 - s)
    ∙ ap (λ (i : ℕ). rev 64 x * 2 ^ k % 2 ^ 64 / 2 ^ i) d
    ∙ ap (λ (i : ℕ). i / 2 ^ (k + c)) (ap (λ (i : ℕ). rev i x * 2 ^ k % 2 ^ i) e ∙ rev-up (c + s) k x)
    ∙ sym (shr-shr (rev (c + s) y * 2 ^ k) k c)
    ∙ ap (λ (i : ℕ). i / 2 ^ c) (ap (λ (i : ℕ). i / 2 ^ k) z ∙ pow.high (rev (c + s) y) k (pow_pos k))
    ∙ rev_high c s y

-- ---- blocks

-- x with each of its m lowest blocks of k bits reversed
abbrev pub lanes : ℕ → ℕ → ℕ → ℕ
lanes k zero x = 0
lanes k (suc m) x = rev k x + 2 ^ k * lanes k m (x / 2 ^ k)

abbrev pub twice : ℕ → ℕ
twice zero = zero
twice (suc m) = suc (suc (twice m))

-- the lower block of each of m twos of blocks of k bits
abbrev pub mask : ℕ → ℕ → ℕ
mask k zero = 0
mask k (suc m) = mask k m * 2 ^ (k + k) + (2 ^ k - 1)

-- blocks of one bit are the number
pub lanes_one : (m x : ℕ) → x < 2 ^ m → lanes 1 m x ≡ x
lanes_one zero x h = omega arith
lanes_one (suc m) x h =
    let k = rw (pow-succ' 2 m) at h in
    omega (arith, lanes_one m (x / 2) (omega arith), ap (λ (i : ℕ). i % 2) (div-one x))

-- one block is all
lanes-whole : (k x : ℕ) → lanes k 1 x ≡ rev k x
lanes-whole k x = omega (arith, mul-zero (2 ^ k))

-- a block above another, and blocks above these two, under the mask
masked : (k r b l m : ℕ) → l < 2 ^ k → b < 2 ^ k → bit_and (r * 2 ^ (k + k) + (b * 2 ^ k + l)) (m * 2 ^ (k + k) + (2 ^ k - 1)) ≡ bit_and r m * 2 ^ (k + k) + l
masked k r b l m h g =
    let two : b * 2 ^ k + l < 2 ^ (k + k) = rw (pow-add 2 k k) (omega (arith, mul-le-mul_right {m = suc b} {n = 2 ^ k} (2 ^ k) g, suc-mul b (2 ^ k))) in
    let one : 2 ^ k - 1 < 2 ^ (k + k) = omega (arith, pow_pos k, pow_mono {i = k} {j = k + k} (omega arith)) in
    and_block (k + k) r m (b * 2 ^ k + l) (2 ^ k - 1) two one
    ∙ ap (λ (i : ℕ). bit_and r m * 2 ^ (k + k) + i) (and_mask (b * 2 ^ k + l) k ∙ pow.low b k h)

regroup : (A B P Q b l : ℕ) → A * Q + b + (B * Q + l) * P ≡ (A + B * P) * Q + (l * P + b)
regroup A B P Q b l =
    let e : B * Q * P ≡ B * P * Q = mul_assoc B Q P ∙ ap (λ (i : ℕ). B * i) (mul_comm Q P) ∙ sym (mul_assoc B P Q) in
    omega (arith, add-mul (B * Q) l P, add-mul A (B * P) Q, e)

-- the lowest two blocks are swapped, and those above them
swap_two : (k r b l m : ℕ) → l < 2 ^ k → b < 2 ^ k
    → swap k (m * 2 ^ (k + k) + (2 ^ k - 1)) (r * 2 ^ (k + k) + (b * 2 ^ k + l)) ≡ swap k m r * 2 ^ (k + k) + (l * 2 ^ k + b)
swap_two k r b l m h g =
    let P = 2 ^ k in
    let Q = 2 ^ (k + k) in
    let M = m * Q + (P - 1) in
    let q : (i : ℕ) → i * P * P ≡ i * Q = λ i. mul_assoc i P P ∙ ap (λ (j : ℕ). i * j) (sym (pow-add 2 k k)) in
    let y : r * Q + (b * P + l) ≡ (r * P + b) * P + l = omega (arith, q r, add-mul (r * P) b P) in
    let s : r * P + b ≡ r / P * Q + (r % P * P + b) = omega (arith, q (r / P), add-mul (r / P * P) (r % P) P, ap (λ (i : ℕ). i * P) (split r k)) in
    let up : bit_and ((r * Q + (b * P + l)) / P) M ≡ bit_and (r / P) m * Q + b
    = ap (λ (i : ℕ). bit_and i M) (ap (λ (i : ℕ). i / P) y ∙ pow.high (r * P + b) k h ∙ s) ∙ masked k (r / P) (r % P) b m g (mod-lt r (pow_pos k)) in
    ap₂ (λ (i j : ℕ). i + j * P) up (masked k r b l m h g) ∙ regroup (bit_and (r / P) m) (bit_and r m) P Q b l

-- Blocks of k bits reversed, and each two neighbours swapped: blocks of k + k bits reversed.
pub swap_lanes : (k m x : ℕ) → swap k (mask k m) (lanes k (twice m) x) ≡ lanes (k + k) m x
swap_lanes k zero x = omega (arith, and_zero_r (0 / 2 ^ k))
swap_lanes k (suc m) x =
    let P = 2 ^ k in
    let Q = 2 ^ (k + k) in
    let r = lanes k (twice m) (x / P / P) in
    let l = rev k x in
    let b = rev k (x / P) in
    let q : P * (P * r) ≡ r * Q = sym (mul_assoc P P r) ∙ ap (λ (j : ℕ). j * r) (sym (pow-add 2 k k)) ∙ mul_comm Q r in
    let e : l + P * (b + P * r) ≡ r * Q + (b * P + l) = omega (arith, mul-add P b (P * r), q, mul_comm P b) in
    ap (swap k (mask k m * Q + (P - 1))) e
    ∙ swap_two k r b l (mask k m) (rev_lt k x) (rev_lt k (x / P))
    ∙ ap (λ (i : ℕ). i * Q + (l * P + b)) (swap_lanes k m (x / P / P) ∙ ap (lanes (k + k) m) (shr-shr x k k))
    ∙ omega (arith, rev_add k k x, mul_comm P l, mul_comm Q (lanes (k + k) m (x / Q)))

-- ---- 64 bits

-- blocks swapped under a mask whose two copies fit
module _ (k m x : ℕ) (h : m + m * 2 ^ k < 2 ^ 64) where
  pub swap_shifted : bit_and x m * 2 ^ k % 2 ^ 64 ≡ bit_and x m * 2 ^ k
  swap_shifted = mod-eq_of_lt (omega (arith, mul-le-mul_right (2 ^ k) (and_le_r x m)))

  pub swap-fits : swap k m x < 2 ^ 64
  swap-fits = omega (arith, mul-le-mul_right (2 ^ k) (and_le_r x m), and_le_r (x / 2 ^ k) m)

-- blocks of one bit are swapped, then of two, up to 32
pub reverse_64 : (x : ℕ) → x < 2 ^ 64
    → swap 32 4294967295 (swap 16 281470681808895 (swap 8 71777214294589695 (swap 4 1085102592571150095 (swap 2 3689348814741910323 (swap 1 6148914691236517205 x))))) ≡ rev 64 x
reverse_64 x h =
    ap (λ (i : ℕ). swap 32 4294967295 (swap 16 281470681808895 (swap 8 71777214294589695 (swap 4 1085102592571150095 (swap 2 3689348814741910323 (swap 1 6148914691236517205 i)))))) (sym (lanes_one 64 x h))
    ∙ ap (λ (i : ℕ). swap 32 4294967295 (swap 16 281470681808895 (swap 8 71777214294589695 (swap 4 1085102592571150095 (swap 2 3689348814741910323 i))))) (swap_lanes 1 32 x)
    ∙ ap (λ (i : ℕ). swap 32 4294967295 (swap 16 281470681808895 (swap 8 71777214294589695 (swap 4 1085102592571150095 i)))) (swap_lanes 2 16 x)
    ∙ ap (λ (i : ℕ). swap 32 4294967295 (swap 16 281470681808895 (swap 8 71777214294589695 i))) (swap_lanes 4 8 x)
    ∙ ap (λ (i : ℕ). swap 32 4294967295 (swap 16 281470681808895 i)) (swap_lanes 8 4 x)
    ∙ ap (swap 32 4294967295) (swap_lanes 16 2 x)
    ∙ swap_lanes 32 1 x
    ∙ lanes-whole 64 x
