-- The turns of the pass over a tree of addresses, from its end to its start: what each of them shows. Assumes nothing.
use Rattle.std.specs.Prelude.{ℕ, ◌-◌, ◌/◌, ◌%◌, ◌^◌, ◌≤◌, ◌<◌, ◌≡◌}
use Rattle.tree_turns.specs.declared.Turn.{Turn}
use Rattle.tree_turns.specs.declared.Turn.TheVariants.{Returns, Descends, Closes, Crosses}

-- v is where the subtree of d bits starts, todo whether it is still to do (1 or 0), c where the run starts that holds its last address.
abbrev pub TurnOf : ℕ → ℕ → ℕ → ℕ → Turn → Type 0
TurnOf todo v d c Returns = (todo ≡ 1) × (c ≤ v)
TurnOf todo v d c Descends = (todo ≡ 1) × (v < c)
TurnOf todo v d c Closes = (todo ≡ 0) × (v / 2 ^ (128 - d) % 2 ≡ 0)
TurnOf todo v d c Crosses = (todo ≡ 0) × (v / 2 ^ (128 - d) % 2 ≡ 1)
