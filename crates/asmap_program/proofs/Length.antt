-- A MATCH's length and a number's bit width, both told by the place of the leading one.
-- Assumes nothing.
use mathlib.Core.Path.{◌≡◌, ◌∙◌, refl, ap}
use Prim.Native.Nat.{ℕ, zero, suc, ◌-◌, ◌/◌, ◌^◌, ◌≤◌, ◌<◌}
use native.Mathlib.Nat.{pow-suc}
use native.Mathlib.Decide.{dec_lt}
use native.Mathlib.Omega.{arith}
use borrow.Author.Tests.{le-leb, lt-leb}
use lib.Pow.{pow_pos}
use lib.Count.{count_leading_zeros, leading_of_zero, leading_top}
use Rattle.asmap_program.specs.Map.{length_in, length_of, Width}

length-step : (f v : ℕ) → 2 ≤ v → length_in (suc f) v ≡ suc (length_in f (v / 2))
unfolding length_in
length-step f v h = rw (le-leb 2 v h)

length_none : (f v : ℕ) → v < 2 → length_in f v ≡ 0
unfolding length_in
length_none zero v h = refl
length_none (suc f) v h = rw (lt-leb 2 v h)

-- 2 ^ j ≤ v < 2 ^ (j + 1): the length is j
length_is : (f j v : ℕ) → 2 ^ j ≤ v → v < 2 ^ suc j → j ≤ f → length_in f v ≡ j
length_is f zero v l h k = length_none f v (omega arith)
length_is zero (suc j) v l h k = absurd (omega arith)
length_is (suc f) (suc j) v l h k =
    let p = pow-suc 2 j in
    let q = pow-suc 2 (suc j) in
    length-step f v (omega (arith, pow_pos j)) ∙ ap suc (length_is f j (v / 2) (omega arith) (omega arith) (omega arith))

pub length_some : (v : ℕ) → 2 ≤ v → 1 ≤ length_of v
unfolding length_of
length_some v h = omega (arith, length-step 31 v h)

-- 32 less the leading zeros is the bit width (document 01, Forms)
pub width_leading : (v : ℕ) → v < 2 ^ 32 → Width v (32 - count_leading_zeros 32 v)
unfolding length_of
width_leading zero k =
    let e : 32 - count_leading_zeros 32 0 ≡ 0 = omega (arith, leading_of_zero 32) in
    record { none = λ _. e; low = λ h. absurd (omega arith); high = rw e (omega arith); length = λ h. absurd (omega arith) }
width_leading (suc v) k =
    let t = leading_top 32 (suc v) (omega arith) k in
    let e : 32 - count_leading_zeros 32 (suc v) ≡ suc t.0 = omega (arith, t.1) in
    let q : 32 - count_leading_zeros 32 (suc v) - 1 ≡ t.0 = omega (arith, t.1) in
    let l = length_is 32 t.0 (suc v) t.2 t.3 (omega (arith, t.1)) in
    record { none = λ z. absurd (omega arith); low = λ _. rw q t.2; high = rw e t.3; length = λ _. omega (arith, e, l) }

length_at_most : (f v k : ℕ) → v < 2 ^ suc k → length_in f v ≤ k
unfolding length_in
length_at_most zero v k h = omega arith
length_at_most (suc f) v zero h = omega (arith, length_none (suc f) v (omega arith))
length_at_most (suc f) v (suc k) h = go (dec_lt v 2) (length_at_most f (v / 2) k (omega (arith, pow-suc 2 (suc k))))
  where
    go : Dec (v < 2) → length_in f (v / 2) ≤ k → length_in (suc f) v ≤ suc k
    go (yes n) r = omega (arith, length_none (suc f) v n)
    go (no n) r = omega (arith, length-step f v (omega arith), r)

-- a number below 2 ^ (k + 1) is at most k long
pub length-below : (v k : ℕ) → v < 2 ^ suc k → length_of v ≤ k
unfolding length_of
length-below v k h = length_at_most 32 v k h
