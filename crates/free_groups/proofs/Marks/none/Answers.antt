-- `none`: with no group used each mark is 0, and no link counts (`linked_none`).
use Rattle.free_groups.proofs.Marking.{linked_none}
use Rattle.free_groups.proofs.Marks.none.Goals as goal

pub returns-clause-linked : goal.returns-clause-linked
returns-clause-linked c = linked_none _
