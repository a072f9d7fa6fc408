-- The next piece of a listing: its prefix length and number, and where the listing stands then.
-- Assumes nothing.
use Rattle.std.specs.Prelude.{ℕ, Option, Some}
use Rattle.asmap_list_step.specs.declared.Spot.{Spot}

pattern abbrev pub Piece : ℕ → ℕ → Spot → Option (ℕ × ℕ × Spot)
Piece len number spot = Some (len, number, spot)
