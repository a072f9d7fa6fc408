-- By the rows of `StepLaws` on steps up to a piece.
use Rattle.asmap_list_step.proofs.StepLaws.{going_start, going_on, going_gives, going_ends}
use Rattle.asmap_list_step.proofs.next_piece.Goals as goal

pub loop-len-init : goal.loop-len-init
loop-len-init c = going_start c.args.map.now _ _ _ c.requires.1

pub loop-len-preserved : goal.loop-len-preserved
loop-len-preserved c = going_on c.loop-len.invariant c.in-Goes.ensures

pub returns-in-Gives : goal.returns-in-Gives
returns-in-Gives c = going_gives c.loop-len.invariant c.in-Gives.ensures

pub returns-in-Ends : goal.returns-in-Ends
returns-in-Ends c = going_ends c.loop-len.invariant c.in-Ends.ensures
