-- `candidate_at` is the candidate at that place of the list.
use Rattle.std.proofs.Common.{◌≡◌, ◌+◌, ◌-◌, ◌*◌, sym, arith, length-take, length-drop}
use Rattle.peer_lists.proofs.Lists.{candidate_at_lem}
use Rattle.peer_lists.proofs.candidate_at.Goals as goal

pub returns : goal.returns
returns c =
    let a = c.args in
    let e : 20 * a.i + 20 - 20 * a.i ≡ 20 = omega arith in
    rw e (sym (candidate_at_lem a.candidates.now a.i (omega arith)), simp (length-take, length-drop) (omega arith))
