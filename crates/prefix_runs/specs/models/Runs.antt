-- Runs of one number among prefixes and the gaps between them. Assumes nothing.
use Rattle.std.specs.Prelude.{ℕ, ◌-◌, ◌≤◌, ◌<◌, ◌≡◌, ◌≢◌, List}
use Rattle.prefix_records.specs.Tiling.{first_of, past_of}
use Rattle.prefix_records.specs.models.Cursor.{value_of}
use Rattle.prefix_lists.specs.List.{count_of, piece_at, number_at}
use Rattle.prefix_runs.specs.declared.Run.{Run}

-- j of the list's prefixes lie below the address e, the others from e on.
pub record Cut (l : List ℕ) (e j : ℕ) : Type 0 where
  pub some : j ≤ count_of l
  pub below : (i : ℕ) → i < j → past_of 128 (piece_at l i) ≤ e
  pub above : (i : ℕ) → j ≤ i → i < count_of l → e ≤ first_of 128 (piece_at l i)

-- A run that ends below e: the addresses from its first to below e have one number, f being the number of each address, the address before it has
-- another, and Cuts holds of where it starts and of what lies under it.
pub record RunAt (f : ℕ → ℕ) (Cuts : ℕ → ℕ → Type 0) (e : ℕ) (r : Run) : Type 0 where
  pub same : (a : ℕ) → value_of r.first ≤ a → a < e → f a ≡ r.number
  pub other : 0 < value_of r.first → f (value_of r.first - 1) ≢ r.number
  pub cut : Cuts (value_of r.first) r.under

-- The number of each address of 128 bits by a list of records and a given number.
abbrev pub numbers : List ℕ → ℕ → ℕ → ℕ
numbers l given = number_at 128 (piece_at l) given (count_of l)

-- A run of such a list that ends below e.
abbrev pub RunBelow : List ℕ → ℕ → ℕ → Run → Type 0
RunBelow l given e r = (value_of r.first < e) × RunAt (numbers l given) (Cut l) e r
