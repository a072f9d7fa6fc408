-- What the passes can rely on where a pick is not refused.
-- Assumes nothing.
use Rattle.std.specs.Prelude.{ℕ, ◌/◌, ◌≤◌, min, ◌≡◌, List, length, None}
use Rattle.netgroup.specs.Group.{Numbering}
use Rattle.netgroup.specs.Refusal.{limit_refusal}

-- few enough candidates and occupied groups for a place to fit its number, a map within the limit, and room for the picks and their groups
pub record Ready (n : Numbering) (bytes occupied : List ℕ) (max : ℕ) (picks groups : List ℕ) : Type 0 where
  pub few : length bytes / 20 ≤ 4096
  pub few_occupied : length occupied ≤ 4096
  pub fit : limit_refusal n ≡ None
  pub room_picks : min max (length bytes / 20) ≤ length picks
  pub room_groups : min max (length bytes / 20) ≤ length groups
