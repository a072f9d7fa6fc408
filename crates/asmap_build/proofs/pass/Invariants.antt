-- What the loop knows of the subtree where it stands and of what is behind it (Passing), and how much is left (Turns).
use Rattle.prefix_records.specs.models.Cursor.{value_of}
use Rattle.prefix_runs.specs.models.Runs.{Cut}
use Rattle.asmap_build.specs.Build.{number_in}
use Rattle.asmap_build.proofs.Passing.{Passing}
use Rattle.asmap_build.proofs.Turns.{left}
use Rattle.asmap_build.proofs.pass.Given as goal

abbrev pub invariant-loop-depth : goal.invariant-loop-depth
invariant-loop-depth g l =
    Passing (number_in l.prefixes.records.now l.prefixes.given 128) (Cut l.prefixes.records.now) 128 g.S.Step.writes l.total l.initial.out l.out l.starts l.front (value_of l.first) l.depth l.todo l.run

abbrev pub decreases-loop-depth : goal.decreases-loop-depth
decreases-loop-depth g l = left 128 (value_of l.first) l.depth l.todo
