-- The verdict is what the loop came to, and so it is Core's: `like_core`.
use Rattle.std.proofs.Common.{◌∙◌, sym, ap}
use borrow.Author.Tests.{ltb-false}
use Rattle.asmap_program.specs.Map.{limit}
use Rattle.asmap_check_run.specs.declared.Judged.{Judged}
use Rattle.asmap_check.proofs.Limit.{checked}
use Rattle.asmap_check.proofs.Core.{like_core}
use Rattle.asmap_check.proofs.check_over.Goals as goal

pub returns-clause-core : goal.returns-clause-core
returns-clause-core c =
    let a = c.args in
    like_core _ a.bits _ (ap (λ (j : Judged). j.verdict) c.run_check.ensures.0 ∙ checked _ a.bits (ltb-false limit _ (sym c.too_long.ensures ∙ c.if-too_long.false)))
