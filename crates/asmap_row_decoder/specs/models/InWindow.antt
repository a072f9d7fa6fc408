-- The decoder's model: a code read from a window, a number whose lowest bits are the map's bits from a place on, with zeros past the
-- map's end. `proofs/WindowLaws.antt` shows that it is the code of the map.
-- Assumes nothing.
use Rattle.std.specs.Prelude.{ℕ, zero, suc, ◌+◌, ◌/◌, ◌%◌, ◌^◌, ◌≤◌, ◌≡◌, List, [], ◌∷◌, leb, eqb, length, drop, Option}
use Rattle.asmap_codes.specs.Bits.{low, number, map_bits}
use Rattle.asmap_codes.specs.Row.{Row, longest}
use Rattle.asmap_codes.specs.Code.{pick}
use Rattle.asmap_window.specs.models.Window.{Window}
use Rattle.asmap_row_decoder.specs.declared.Prefix.{Prefix}
use Rattle.asmap_codes.specs.Reading.{Code, Cut, Value}

-- the window w has every bit that a row's code may have at bit `at` of a map
abbrev pub Holds : Row → List ℕ → ℕ → ℕ → Type 0
Holds row m at w = Window (longest row.sizes) w (drop at (map_bits m))

-- s bits of the window, highest first, are added to v; `at` is the place of its first bit and `end` the number of the map's bits
abbrev pub tail_in : ℕ → ℕ → ℕ → ℕ → ℕ → Option Code
tail_in s v at end w = pick (leb (at + s) end) (Value (v + number (low s w)) (at + s)) Cut

unfoldable pub code_in : List ℕ → ℕ → ℕ → ℕ → ℕ → Option Code
code_in [] v at end w = Cut
code_in (s ∷ []) v at end w = tail_in s v at end w
code_in (s ∷ t ∷ ss) v at end w =
    pick (eqb (w % 2) 0) (tail_in s v (at + 1) end (w / 2)) (code_in (t ∷ ss) (v + 2 ^ s) (at + 1) end (w / 2))

-- the code of a row
abbrev pub row_in : Row → ℕ → ℕ → ℕ → Option Code
row_in row at end w = code_in row.sizes row.least at end w

-- where the prefix of a code in a window ends: what is left of the code is the bits of one size
pub record Stopped (ss : List ℕ) (v w : ℕ) (r : Prefix) : Type 0 where
  pub near : r.read ≤ length ss
  pub small : r.value + 2 ^ r.size ≤ 2 ^ 31
  pub rest : (at end : ℕ) → code_in ss v at end w ≡ tail_in r.size r.value (at + r.read) end r.left

-- one more where the bit is 1, none where it is 0
abbrev pub one_more : ℕ → ℕ → ℕ
one_more zero k = 0
one_more (suc b) k = suc k

-- how many ones a window starts with, n at most
unfoldable pub ones_of : ℕ → ℕ → ℕ
ones_of zero w = 0
ones_of (suc n) w = one_more (w % 2) (ones_of n (w / 2))
