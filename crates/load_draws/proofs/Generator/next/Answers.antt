-- Each line of the body is one of the definition's, and no draw is 0 (next-some).
use Rattle.std.proofs.Common.{refl, arith}
use Rattle.load_draws.specs.Draw.{up, down, next}
use Rattle.load_draws.proofs.DrawLaws.{next-some}
use Rattle.load_draws.proofs.Generator.next.Goals as goal

pub returns-clause-value : goal.returns-clause-value
unfolding next up down
returns-clause-value c = refl

pub returns-clause-some : goal.returns-clause-some
unfolding next up down
returns-clause-some c z = next-some c.args.self.state (omega arith) z
