-- Steps that give no piece leave what is still to come as it was.
use Rattle.asmap_list_step.specs.models.Step.{weight}
use Rattle.asmap_list_step.proofs.StepLaws.{Going}
use Rattle.asmap_list_step.proofs.next_piece.Given as goal

abbrev pub invariant-loop-len : goal.invariant-loop-len
invariant-loop-len l = Going l.map l.fn.from l.fn.stack.bits l.fn.stack.numbers l.s l.stack.bits l.stack.numbers

abbrev pub decreases-loop-len : goal.decreases-loop-len
decreases-loop-len l = weight l.map l.s
