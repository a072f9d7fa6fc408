-- `is_picked` is `picked`: a place that is picked is one of the list.
use Rattle.std.proofs.Common.{arith}
use Rattle.pick_passes.proofs.Placing.{place-below}
use Rattle.pick_passes.proofs.is_picked.Goals as goal

pub candidate_at-requires : goal.candidate_at-requires
candidate_at-requires c = place-below _ c.args.picks.now c.loop-pick.pick-index c.requires.1 (omega arith)
