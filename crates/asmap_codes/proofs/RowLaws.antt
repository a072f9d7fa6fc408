-- The four rows: what they meet, their greatest values as document 01's table has them, and what being in range means.
-- Assumes nothing.
use mathlib.Core.Path.{◌≡◌, refl}
use mathlib.Core.Logic.{◌≢◌}
use mathlib.Core.Bool.{true, false}
use mathlib.Core.List.{List, [], ◌∷◌, map}
use Prim.Native.Nat.{ℕ, zero, suc, ◌+◌, ◌^◌, ◌≤◌, ◌<◌}
use native.Mathlib.Decide.{dec_lt, dec_le}
use native.Mathlib.Omega.{arith}
use borrow.Author.Tests.{lt-ltb, le-ltb, le-leb, lt-leb}
use lib.Dec.{lit<, lit≤}
use lib.ListN.{length}
use Rattle.asmap_codes.specs.Row.{Row, type_row, asn_row, operand_row, rows, span, greatest, in_range, longest, Fit}

-- the table's last column
pub greatest_values : map greatest rows ≡ 3 ∷ 33521664 ∷ 511 ∷ 2147483632 ∷ []
greatest_values = refl

abbrev pub AllFit : List Row → Type 0
AllFit [] = Unit {0}
AllFit (row ∷ rs) = Fit row × AllFit rs

fits : (row : Row) → 1 < length row.sizes → length row.sizes ≤ 26 → row.least + span row.sizes ≤ 2 ^ 31 → longest row.sizes ≤ 55 → Fit row
fits row m f s l = record { many = m; few = f; small = s; short = l }

-- the four rows meet what is asked of a row
pub rows_fit : AllFit rows
rows_fit = (fits _ (lit< tt) (lit≤ tt) (lit≤ tt) (lit≤ tt), (fits _ (lit< tt) (lit≤ tt) (lit≤ tt) (lit≤ tt), (fits _ (lit< tt) (lit≤ tt) (lit≤ tt) (lit≤ tt), (fits _ (lit< tt) (lit≤ tt) (lit≤ tt) (lit≤ tt), tt))))

pub type_fit : Fit type_row
type_fit = rows_fit.0

pub operand_fit : (op : ℕ) → Fit (operand_row op)
operand_fit zero = rows_fit.1.0
operand_fit (suc zero) = rows_fit.1.1.1.0
operand_fit (suc (suc zero)) = rows_fit.1.1.0
operand_fit (suc (suc (suc n))) = rows_fit.1.0

-- every opcode but JUMP and MATCH has an AS number
pub asn_operand : (op : ℕ) → op ≢ 1 → op ≢ 2 → operand_row op ≡ asn_row
asn_operand zero h k = refl
asn_operand (suc zero) h k = absurd (h refl)
asn_operand (suc (suc zero)) h k = absurd (k refl)
asn_operand (suc (suc (suc op))) h k = refl

module _ (row : Row) (v : ℕ) where
  pub within_range : row.least ≤ v → v < row.least + span row.sizes → in_range row v ≡ true
  within_range h k = rw (le-leb row.least v h, lt-ltb v (row.least + span row.sizes) k)

  pub below_range : v < row.least → in_range row v ≡ false
  below_range h = rw (lt-leb row.least v h)

  pub above_range : row.least + span row.sizes ≤ v → in_range row v ≡ false
  above_range h = rw (le-leb row.least v (omega arith), le-ltb v (row.least + span row.sizes) h)

  pub range_of : in_range row v ≡ true → (row.least ≤ v) × (v < row.least + span row.sizes)
  range_of e = go (dec_le row.least v) (dec_lt v (row.least + span row.sizes))
    where
      go : Dec (row.least ≤ v) → Dec (v < row.least + span row.sizes) → (row.least ≤ v) × (v < row.least + span row.sizes)
      go (yes h) (yes k) = (h, k)
      go (yes h) (no k) = let z : ◌≡◌ {A = ℕ} 0 1 = cc (above_range (omega arith)) in absurd (omega arith)
      go (no h) k = let z : ◌≡◌ {A = ℕ} 0 1 = cc (below_range (omega arith)) in absurd (omega arith)
