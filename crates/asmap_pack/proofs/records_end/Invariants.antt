-- Where the records end from here is where they end.
use Rattle.std.proofs.Common.{◌≡◌, ◌≤◌, drop}
use Rattle.asmap_pack.specs.models.Size.{size_from}
use Rattle.asmap_pack.specs.models.Records.{bits_from}
use Rattle.asmap_pack.proofs.records_end.Given as goal

abbrev pub invariant-loop-record : goal.invariant-loop-record
invariant-loop-record l = record {
  small : l.at ≤ 134217728;
  same : size_from 0 (bits_from l.records 0) ≡ size_from l.at (bits_from (drop l.record-index l.records) l.at);
}
