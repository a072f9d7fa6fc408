-- Marks and links, by which a group is found among the used ones, the occupied and behind them the taken, without a scan of them all.
-- Assumes nothing.
use Rattle.std.specs.Prelude.{ℕ, ◌+◌, ◌-◌, ◌%◌, ◌≤◌, ◌<◌, ◌≢◌, ◌≡◌, List, length, take, get_or, set}

-- of the groups gs, k stand up to and with the last that is h modulo 4,096: none behind them is, and k is 0 where none is
pub record Last (h : ℕ) (gs : List ℕ) (k : ℕ) : Type 0 where
  pub within : k ≤ length gs
  pub none_behind : (q : ℕ) → k ≤ q → q < length gs → get_or gs q 0 % 4096 ≢ h
  pub stands : 0 < k → get_or gs (k - 1) 0 % 4096 ≡ h

-- a mark leads to the last used group that is marked there, and the link of a place to the last in front of it with the same mark
pub record Linked (used marks links : List ℕ) : Type 0 where
  pub long : length marks ≡ 4096
  pub room : length used ≤ length links
  pub marked : (h : ℕ) → h < 4096 → Last h used (get_or marks h 0)
  pub linked : (p : ℕ) → p < length used → Last (get_or used p 0 % 4096) (take p used) (get_or links p 0)

-- a mark put for the group g at a place: r stood there before
pub record Put (marks : List ℕ) (g place r : ℕ) (marks' : List ℕ) : Type 0 where
  pub stood : r ≡ get_or marks (g % 4096) 0
  pub put : marks' ≡ set marks (g % 4096) (place + 1)
