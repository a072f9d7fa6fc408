-- The bits counted and those still to come are the load's.
use Rattle.std.proofs.Common.{◌≡◌, ◌+◌, ◌-◌, length}
use Rattle.asmap_load.specs.Load.{load_bits}
use Rattle.asmap_load.proofs.load_length.Given as goal

abbrev pub invariant-loop : goal.invariant-loop
invariant-loop l = l.bits + length (load_bits (l.pairs - l.counter) l.drawn.state) ≡ length (load_bits l.pairs l.initial.drawn.state)
