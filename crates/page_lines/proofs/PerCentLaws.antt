-- The per cent in tenths is the nearest one, halves up; of a part it is at most 1000.
-- Assumes nothing.
use borrow.Author.Tests.{lt-ltb, le-ltb}
use mathlib.Core.Path.{◌≡◌}
use Prim.Native.Nat.{ℕ, ◌+◌, ◌*◌, ◌/◌, ◌%◌, ◌≤◌, ◌<◌}
use native.Mathlib.Nat.{mod-lt, div-add-mod, mul-suc, mul-le-mul_left}
use native.Mathlib.Decide.{dec_lt}
use native.Mathlib.Omega.{arith}
use Rattle.page_lines.specs.PerCent.{rounded, tenths}

-- all × (2 t − 1) ≤ 2000 × part < all × (2 t + 1): part is nearest to t thousandths of all, and from a half on it is the upper one
pub tenths_nearest : (part all : ℕ) → 0 < all → (2 * (all * tenths part all) ≤ 2000 * part + all) × (2000 * part + all < 2 * (all * tenths part all) + 2 * all)
unfolding tenths rounded
tenths_nearest part all h = go (dec_lt (2 * r) all)
  where
    f : ℕ
    f = 1000 * part / all

    r : ℕ
    r = 1000 * part % all

    whole : all * f + r ≡ 1000 * part
    whole = div-add-mod (1000 * part) all

    less : r < all
    less = mod-lt (1000 * part) h

    go : Dec (2 * r < all) → (2 * (all * rounded f r all) ≤ 2000 * part + all) × (2000 * part + all < 2 * (all * rounded f r all) + 2 * all)
    go (yes l) = rw (lt-ltb (2 * r) all l) (omega (arith, whole), omega (arith, whole))
    go (no l) = rw (le-ltb (2 * r) all (omega arith), mul-suc all f) (omega (arith, whole, less, l), omega (arith, whole, less, l))

-- at most 100.0
pub tenths_most : (part all : ℕ) → 0 < all → part ≤ all → tenths part all ≤ 1000
tenths_most part all h l = go (dec_lt 1000 (tenths part all))
  where
    go : Dec (1000 < tenths part all) → tenths part all ≤ 1000
    go (yes m) = let k : 1001 ≤ tenths part all = omega arith in absurd (omega (arith, (tenths_nearest part all h).0, mul-le-mul_left all k))
    go (no m) = omega arith
