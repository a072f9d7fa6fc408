-- `candidates_from` is `all_valid` of those from a place on: past the last one there is none that is not.
use Rattle.std.proofs.Common.{◌∙◌, sym, arith}
use Rattle.peer_lists.specs.Candidates.{candidates_of}
use Rattle.peer_lists.proofs.Lists.{valid-done, length_candidates}
use Rattle.peer_lists.proofs.candidates_from.Goals as goal

pub returns : goal.returns
returns c =
    let bytes = c.args.candidates.now in
    let n = length_candidates bytes in
    sym (c.loop-i.invariant ∙ valid-done (candidates_of bytes) c.loop-i.i (omega arith))
