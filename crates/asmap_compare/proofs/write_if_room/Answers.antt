-- What is only counted leaves the output as it was.
use Rattle.std.proofs.Common.{List, ℕ, refl, sym, subst, arith}
use Rattle.prefix_changes.specs.Record.{change_records_of}
use Rattle.prefix_changes.proofs.RecordLaws.{length-changes}
use Rattle.asmap_records.specs.Output.{Made, Hands}
use Rattle.asmap_records.proofs.OutputLaws.{hands_short}
use Rattle.asmap_changes.specs.Changes.{changes_of}
use Rattle.asmap_compare.proofs.CallLaws.{hands_left}
use Rattle.asmap_compare.proofs.write_if_room.Goals as goal

pub returns-then-out-found : goal.returns-then-out-found
returns-then-out-found c =
    let cs = changes_of c.args.old.now c.args.new.now 128 in
    let w = c.put_changes-found.ensures in
    subst (λ (o : List ℕ). Hands (Made (change_records_of cs)) c.args.out.now o _) (sym w.output)
    (hands_short (Made (change_records_of cs)) c.args.out.now (change_records_of cs) refl (omega (arith, w.pieces, length-changes cs, c.if-out-found.true, c.put_changes-found.auto.out)))

pub returns : goal.returns
returns c =
    let cs = changes_of c.args.old.now c.args.new.now 128 in
    hands_left (Made (change_records_of cs)) c.args.out.now _ _ _ c.put_changes-found.ensures.output c.write_changes-2.ensures
