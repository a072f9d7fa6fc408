-- At a width the check over its bits; at any other number 18.
use Rattle.std.proofs.Common.{◌∙◌, sym, ap, Err}
use Rattle.std.proofs.lemmas.Result.{err_from_is_err_and}
use Rattle.refusals.specs.Numbers.{of_map}
use Rattle.asmap_program.specs.Verdict.{Verdict}
use Rattle.asmap_program.proofs.Widths.{at_width_lem, no_width}
use Rattle.asmap_check.specs.Check.{check_of}
use Rattle.asmap_check.proofs.sanity_check_bits.Goals as goal

pub returns-then-not-is_width-clause-value : goal.returns-then-not-is_width-clause-value
returns-then-not-is_width-clause-value c =
    let a = c.args in
    sym (no_width a.width Err (of_map (check_of a.map.now a.width)) (sym c.is_width.ensures ∙ c.if-not-is_width.true))

pub returns-in_err-check_over-clause-value : goal.returns-in_err-check_over-clause-value
returns-in_err-check_over-clause-value c =
    let a = c.args in
    let p = err_from_is_err_and c.from_residual.result c.from_residual.ensures.1 in
    rw (p.1, p.2)
    (sym (at_width_lem a.width Err (of_map (check_of a.map.now a.width)) (sym c.is_width.ensures ∙ c.if-not-is_width.false)
    ∙ ap (λ (v : Verdict). of_map v) (sym c.check_over.ensures.value ∙ c.in_err-check_over.was)))

pub returns-clause-value : goal.returns-clause-value
returns-clause-value c =
    let a = c.args in
    sym (at_width_lem a.width Err (of_map (check_of a.map.now a.width)) (sym c.is_width.ensures ∙ c.if-not-is_width.false)
    ∙ ap (λ (v : Verdict). of_map v) (sym c.check_over.ensures.value ∙ c.in_ok-check_over.was))
