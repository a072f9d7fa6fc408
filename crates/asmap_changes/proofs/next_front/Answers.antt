-- The next piece of the pass is the foremost of those to come.
use Rattle.asmap_changes.proofs.PairLaws.{coming-length, coming_front, coming_over}
use Rattle.asmap_changes.proofs.next_front.Goals as goal

pub returns-in_err-len : goal.returns-in_err-len
returns-in_err-len c lo ps k = rw c.from_residual.ensures (coming_over k c.in_err-len.ensures)

pub front_at-requires : goal.front_at-requires
front_at-requires c = coming-length c.requires.1.coming c.in_ok-len.ensures

pub returns : goal.returns
returns c lo ps k = coming_front k _ c.in_ok-len.ensures c.front_at.ensures
