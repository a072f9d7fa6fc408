-- Bytes as one number, the first lowest: how the code compares several bytes at a time.
-- Assumes nothing.
use Rattle.std.specs.Prelude.{◌≡◌, ℕ, ◌+◌, ◌*◌, ◌<◌, List, [], ◌∷◌}

abbrev pub number : List ℕ → ℕ
number [] = 0
number (b ∷ bs) = b + 256 * number bs

abbrev pub Bytes : List ℕ → Type 0
Bytes [] = Unit {0}
Bytes (b ∷ bs) = (b < 256) × Bytes bs

-- what a word of bytes is to the code
pub record Word (w : ℕ) (bs : List ℕ) : Type 0 where
  pub value : w ≡ number bs
  pub small : Bytes bs
