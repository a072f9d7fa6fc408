-- What was written are the records of the changes.
use Rattle.std.proofs.Common.{refl, arith}
use Rattle.prefix_changes.specs.Record.{change_records_of}
use Rattle.prefix_changes.proofs.RecordLaws.{length-changes}
use Rattle.asmap_records.specs.Output.{Made}
use Rattle.asmap_records.proofs.OutputLaws.{hands_made}
use Rattle.asmap_changes.specs.Changes.{changes_of}
use Rattle.asmap_compare.proofs.write_changes.Goals as goal

pub returns : goal.returns
returns c =
    let cs = changes_of c.args.old.now c.args.new.now 128 in
    let w = c.put_changes.ensures in
    hands_made (Made (change_records_of cs)) c.args.out.now (change_records_of cs) _ _ refl (omega (arith, w.pieces, length-changes cs)) (omega (arith, c.requires.2, length-changes cs)) w.output
