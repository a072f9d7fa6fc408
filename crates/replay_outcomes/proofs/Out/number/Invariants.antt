-- `Out::number` is `with_number`: the bytes that are left go where they would have gone.
use Rattle.std.proofs.Common.{◌≡◌, ◌-◌}
use Rattle.replay_outcomes.specs.Answers.{with_number}
use Rattle.replay_outcomes.proofs.Out.number.Given as goal

abbrev pub invariant-loop : goal.invariant-loop
invariant-loop l = with_number l.fn.size l.fn.self l.fn.x ≡ with_number (l.fn.size - l.counter) l.out l.rest
