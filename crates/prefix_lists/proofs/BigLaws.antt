-- Numbers of several bytes, the highest first: of eight bytes, and of sixteen as two halves. Assumes nothing.
use Prim.Native.Nat.{ℕ, zero, suc, ◌+◌, ◌*◌, ◌^◌, ◌<◌}
use mathlib.Core.Path.{◌≡◌, sym, ap, ◌∙◌}
use mathlib.Core.List.{List}
use native.Mathlib.Omega.{arith}
use native.Mathlib.Nat.{add-zero, add-suc, mul-one, mul_left_comm, pow-succ', add_assoc}
use lib.ListN.{get_or}
use Rattle.prefix_lists.specs.List.{big}

-- m + n bytes are m bytes, and n bytes behind them
pub big-join : (m n : ℕ) (l : List ℕ) (k : ℕ) → big (m + n) l k ≡ big m l k * 256 ^ n + big n l (k + m)
unfolding big
big-join m zero l k =
    let e : big (m + 0) l k ≡ big m l k = ap (λ (i : ℕ). big i l k) (add-zero m) in
    omega (arith, mul-one (big m l k))
big-join m (suc n) l k =
    let e : big (m + suc n) l k ≡ big (suc (m + n)) l k = ap (λ (i : ℕ). big i l k) (add-suc m n) in
    let g : get_or l (k + m + n) 0 ≡ get_or l (k + (m + n)) 0 = ap (λ (i : ℕ). get_or l i 0) (add_assoc k m n) in
    let p : big m l k * 256 ^ suc n ≡ 256 * (big m l k * 256 ^ n) = ap (λ (i : ℕ). big m l k * i) (pow-succ' 256 n) ∙ mul_left_comm (big m l k) 256 (256 ^ n) in
    let r = big-join m n l k in
    e ∙ omega (arith, r, p, g)

-- sixteen bytes, by two numbers of eight
pub halves : (l : List ℕ) (k : ℕ) {high low : ℕ} → high ≡ big 8 l k → low ≡ big 8 l (k + 8) → high * 2 ^ 64 + low ≡ big 16 l k
halves l k e f = rw (e, f) (sym (big-join 8 8 l k))

-- eight bytes, each with its weight
pub big-eight : (l : List ℕ) (k : ℕ)
    → big 8 l k
    ≡ get_or l k 0 * 72057594037927936
    + get_or l (k + 1) 0 * 281474976710656
    + get_or l (k + 2) 0 * 1099511627776
    + get_or l (k + 3) 0 * 4294967296
    + get_or l (k + 4) 0 * 16777216
    + get_or l (k + 5) 0 * 65536
    + get_or l (k + 6) 0 * 256
    + get_or l (k + 7) 0
unfolding big
big-eight l k =
    let e : get_or l (k + 0) 0 ≡ get_or l k 0 = ap (λ (i : ℕ). get_or l i 0) (add-zero k) in
    omega (arith, e)

-- n bytes are a number below 256 ^ n
pub big-below : (n : ℕ) (l : List ℕ) (k : ℕ) → ((i : ℕ) → get_or l i 0 < 256) → big n l k < 256 ^ n
unfolding big
big-below zero l k h = omega arith
big-below (suc n) l k h = omega (arith, big-below n l k h, h (k + n), pow-succ' 256 n)
