-- `list_room` hands out as many bytes as it says. The law on repeats spares antt a count of them.
use Rattle.std.proofs.Common.{ℕ, sym}
use Rattle.std.proofs.Math.ListN.{length-replicate}
use Rattle.replay_vectors.proofs.list_room.Goals as goal

pub returns : goal.returns
returns c = sym (length-replicate {A = ℕ} 2097152 0)
