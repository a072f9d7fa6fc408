-- `all_candidates` is `all_valid`: four valid candidates leave it to those after them.
use Rattle.std.proofs.Common.{◌≡◌, ◌∙◌, ◌+◌, ◌*◌, sym, arith}
use Rattle.peer_lists.specs.Candidates.{candidates_of}
use Rattle.peer_lists.proofs.Lists.{part-valid}
use Rattle.peer_lists.proofs.all_candidates.Goals as goal

pub loop-turn-preserved : goal.loop-turn-preserved
loop-turn-preserved c =
    let all = candidates_of c.args.candidates.now in
    let i = 4 * c.loop-turn.turn in
    let e : 4 * (c.loop-turn.turn + 1) ≡ i + 4 = omega arith in
    (c.loop-turn.invariant.0, rw e (c.loop-turn.invariant.1 ∙ part-valid all i 4 (sym c.four_candidates.ensures ∙ c.if-not-four_candidates.false)))
