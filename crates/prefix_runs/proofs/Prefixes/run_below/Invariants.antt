-- What is joined to the piece that ends there is joined down from any end from which that first piece is; it starts lower at each turn.
use Rattle.std.proofs.Common.{ℕ}
use Rattle.prefix_records.specs.models.Cursor.{value_of}
use Rattle.prefix_runs.specs.models.Pieces.{Joined}
use Rattle.prefix_runs.proofs.Prefixes.run_below.Given as goal

abbrev pub invariant-loop-self : goal.invariant-loop-self
invariant-loop-self l = (e : ℕ) → Joined l.self.records.now l.self.given e l.initial.run → Joined l.self.records.now l.self.given e l.run

abbrev pub decreases-loop-self : goal.decreases-loop-self
decreases-loop-self l = value_of l.run.first
