-- Pieces of one number, joined from an end downwards: what holds before the run is whole. Assumes nothing.
use Rattle.std.specs.Prelude.{ℕ, zero, suc, ◌^◌, ◌≤◌, ◌<◌, ◌≡◌, List}
use Rattle.prefix_records.specs.models.Cursor.{value_of}
use Rattle.prefix_runs.specs.declared.Run.{Run}
use Rattle.prefix_runs.specs.models.Runs.{Cut, numbers}

-- Where a piece ends, by the address held for it: 0 is held for the end of all addresses.
unfoldable pub top : ℕ → ℕ
top zero = 2 ^ 128
top (suc x) = suc x

-- A run as far as it is joined: the addresses from its first to below e have its number, and the list is cut where it starts. The address before
-- it may have the same number still.
pub record Joined (l : List ℕ) (given e : ℕ) (r : Run) : Type 0 where
  pub some : value_of r.first < e
  pub same : (a : ℕ) → value_of r.first ≤ a → a < e → numbers l given a ≡ r.number
  pub cut : Cut l (value_of r.first) r.under
