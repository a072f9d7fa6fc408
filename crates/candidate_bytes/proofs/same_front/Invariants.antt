-- The bytes before `i` decide, since those from `i` on are equal.
use Rattle.std.proofs.Common.{◌≡◌, ◌≤◌, length, take}
use Rattle.candidate_bytes.specs.Candidate.{same}
use Rattle.candidate_bytes.proofs.same_front.Given as goal

abbrev pub invariant-loop-i : goal.invariant-loop-i
invariant-loop-i l = (l.i ≤ length l.a) × (l.i ≤ length l.b) × (same (take l.n l.a) (take l.n l.b) ≡ same (take l.i l.a) (take l.i l.b))
