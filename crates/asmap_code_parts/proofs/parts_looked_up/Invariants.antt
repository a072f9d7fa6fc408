-- Ones for the sizes that were passed, and the code of what is left over the sizes that are left.
use Rattle.asmap_code_parts.proofs.LookedUp.{Passed}
use Rattle.asmap_code_parts.proofs.parts_looked_up.Given as goal

abbrev pub invariant-loop-ones : goal.invariant-loop-ones
invariant-loop-ones l = Passed l.sizes l.x l.rest l.ones
