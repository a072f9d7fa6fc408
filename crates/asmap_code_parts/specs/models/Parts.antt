-- The parts of a code, as they are found of a value. Assumes nothing.
use Rattle.std.specs.Prelude.{ℕ, zero, suc, ◌+◌, ◌-◌, ◌^◌, ◌≤◌, ◌<◌, ◌≡◌, true, false, List, ◌∷◌, length, Option}
use Rattle.asmap_codes.specs.Bits.{high}
use Rattle.asmap_codes.specs.Row.{Row, in_range}
use Rattle.asmap_codes.specs.models.Grown.{stops}
use Rattle.asmap_codes.specs.Encode.{encode}
use Rattle.asmap_code_parts.specs.declared.Parts.{Parts}
use Rattle.asmap_code_parts.specs.models.Coded.{In, Out}

-- So many ones, then bits.
abbrev pub ones_then : ℕ → List ℕ → List ℕ
ones_then zero bs = bs
ones_then (suc n) bs = 1 ∷ ones_then n bs

-- So many zeros, then bits.
abbrev pub zeros_then : ℕ → List ℕ → List ℕ
zeros_then zero bs = bs
zeros_then (suc n) bs = 0 ∷ zeros_then n bs

-- The parts of the code of x: ones, the zero that stops, and the number in the size's bits.
pub record CodeParts (ss : List ℕ) (x : ℕ) (p : Parts) : Type 0 where
  pub inside : p.ones < length ss
  pub size : p.size ≤ 31
  pub small : p.rest < 2 ^ p.size
  pub code : encode ss x ≡ ones_then p.ones (zeros_then (stops p.ones (length ss)) (high p.size p.rest))

-- The parts of the code of x over sizes that grow by one from s on: the size is that of the leading one of x + 2 ^ s.
pub record GrownParts (s x : ℕ) (p : Parts) : Type 0 where
  pub above : 2 ^ p.size ≤ x + 2 ^ s
  pub below : x + 2 ^ s < 2 ^ suc p.size
  pub passed : p.size ≡ s + p.ones
  pub rest : p.rest ≡ x + 2 ^ s - 2 ^ p.size

-- A value of a row, by the parts of its code.
pub record InRow (row : Row) (v pre : ℕ) (p : Parts) : Type 0 where
  pub ranged : in_range row v ≡ true
  pub parts : CodeParts row.sizes (v - row.least) p
  pub prefix : pre ≡ p.ones + stops p.ones (length row.sizes)
  pub few : length row.sizes ≤ 26

-- What was found of a value in a row.
abbrev pub CodedAs : Row → ℕ → Option (ℕ × Parts) → Type 0
CodedAs row v (In pre p) = InRow row v pre p
CodedAs row v Out = in_range row v ≡ false
