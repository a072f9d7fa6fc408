-- The law of changes is cited for what is promised beside.
use Rattle.asmap_compare.proofs.CallLaws.{compared}
use Rattle.asmap_compare.proofs.compare_bytes.Goals as goal

pub returns-clause-compares : goal.returns-clause-compares
returns-clause-compares c = compared c.args.old.now c.args.new.now 128
