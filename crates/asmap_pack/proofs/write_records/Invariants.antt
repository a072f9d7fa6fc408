-- What the output will hold in the end stays the same, record by record.
use Rattle.asmap_pack.proofs.WriteLaws.{Writing}
use Rattle.asmap_pack.proofs.write_records.Given as goal

abbrev pub invariant-loop-record : goal.invariant-loop-record
invariant-loop-record l = Writing l.records l.fn.out l.out l.record-index l.writer
