-- What the output will hold in the end stays the same, instruction by instruction (`ToCome`).
use Rattle.std.proofs.Common.{◌-◌}
use Rattle.std.proofs.lemmas.List.Edits.{sets}
use Rattle.asmap_bit_writer.specs.Bytes.{bytes_of}
use Rattle.asmap_bit_writer.proofs.ToCome.{ToCome}
use Rattle.asmap_load.specs.Load.{load_bits}
use Rattle.asmap_load.proofs.write_load.Given as goal

abbrev pub invariant-loop : goal.invariant-loop
invariant-loop l =
    ToCome (sets l.initial.out 0 (bytes_of (load_bits l.pairs l.initial.drawn.state))) l.initial.out l.out l.writer (load_bits (l.pairs - l.counter) l.drawn.state)
