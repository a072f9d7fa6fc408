-- The address behind a piece, in halves. Assumes nothing.
use Rattle.std.proofs.Common.{◌≡◌, ℕ, ◌+◌, ◌-◌, ◌*◌, ◌%◌, ◌^◌, ◌<◌, ◌≤◌, ap, ◌∙◌, arith, pow-add, shl_exact}

pub power_of : (k : ℕ) → k < 64 → 1 * 2 ^ k % 2 ^ 64 ≡ 2 ^ k
power_of k h = shl_exact {a = 1} 1 k 64 (omega arith) (omega arith) ∙ omega arith

-- the addresses of a piece of at most 64 bits, as so many of the upper half
pub high_power : (l : ℕ) → l ≤ 64 → 2 ^ (128 - l) ≡ 2 ^ (64 - l) * 2 ^ 64
high_power l h =
    let e : 128 - l ≡ (64 - l) + 64 = omega arith in
    ap (λ (n : ℕ). 2 ^ n) e ∙ pow-add 2 (64 - l) 64
