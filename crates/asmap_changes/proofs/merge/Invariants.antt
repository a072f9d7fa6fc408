-- Each turn notes what the foremost pieces share, and passes the one that ends first, or both.
use Rattle.std.proofs.Common.{◌+◌}
use Rattle.asmap_list_step.specs.models.Step.{weight}
use Rattle.asmap_changes.proofs.MergeLaws.{Standing}
use Rattle.asmap_changes.proofs.merge.Given as goal

abbrev pub invariant-loop-o : goal.invariant-loop-o
invariant-loop-o g l = Standing l.old l.new g.R.Report.writes l.fn.out l.out l.old_stack.bits l.old_stack.numbers l.new_stack.bits l.new_stack.numbers l.found l.o l.n

abbrev pub decreases-loop-o : goal.decreases-loop-o
decreases-loop-o g l = weight l.old l.o.spot + weight l.new l.n.spot
