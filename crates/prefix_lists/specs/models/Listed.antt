-- What holds of a list that is not refused. Assumes nothing.
use Rattle.std.specs.Prelude.{ℕ, ◌^◌, ◌≤◌, ◌<◌, ◌≡◌, List}
use Rattle.prefix_records.specs.Tiling.{first_of, past_of}
use Rattle.prefix_lists.specs.List.{count_of, address_at, piece_at}

-- a number that a RETURN can have
abbrev pub Number : ℕ → Type 0
Number n = (1 ≤ n) × (n ≤ 33521664)

-- No prefix is longer than w; each record's address is the first of its prefix; the prefixes rise and do not overlap.
pub record Rising (w : ℕ) (l : List ℕ) : Type 0 where
  pub short : (i : ℕ) → i < count_of l → (piece_at l i).length ≤ w
  pub first : (i : ℕ) → i < count_of l → first_of 128 (piece_at l i) ≡ address_at l i
  pub inside : (i : ℕ) → i < count_of l → past_of 128 (piece_at l i) ≤ 2 ^ 128
  pub rising : (i j : ℕ) → i < j → j < count_of l → past_of 128 (piece_at l i) ≤ first_of 128 (piece_at l j)
  pub numbers : (i : ℕ) → i < count_of l → Number (piece_at l i).number
