-- At a width where the check over its bits stops; at any other number 18.
use Rattle.std.proofs.Common.{◌∙◌, sym, ap, Result, Err}
use Rattle.std.proofs.lemmas.Result.{err_from_is_err_and}
use Rattle.refusals.specs.Numbers.{of_map}
use Rattle.refusals.specs.declared.Fault.{Fault}
use Rattle.asmap_check.specs.declared.Stop.{Stop}
use Rattle.asmap_program.proofs.Widths.{at_width_lem, no_width}
use Rattle.asmap_check.specs.Check.{stopped_of}
use Rattle.asmap_check.proofs.sanity_check_stop_bits.Goals as goal

pub returns-then-not-is_width : goal.returns-then-not-is_width
returns-then-not-is_width c =
    let a = c.args in
    sym (no_width a.width Err (of_map (stopped_of a.map.now a.width)) (sym c.is_width.ensures ∙ c.if-not-is_width.true))

pub returns-in_err-stop_over : goal.returns-in_err-stop_over
returns-in_err-stop_over c =
    let a = c.args in
    let p = err_from_is_err_and c.from_residual.result c.from_residual.ensures.1 in
    rw (p.1, p.2)
    (sym (at_width_lem a.width Err (of_map (stopped_of a.map.now a.width)) (sym c.is_width.ensures ∙ c.if-not-is_width.false)
    ∙ ap (λ (v : Result Stop Fault). of_map v) (sym c.stop_over.ensures ∙ c.in_err-stop_over.was)))

pub returns : goal.returns
returns c =
    let a = c.args in
    sym (at_width_lem a.width Err (of_map (stopped_of a.map.now a.width)) (sym c.is_width.ensures ∙ c.if-not-is_width.false)
    ∙ ap (λ (v : Result Stop Fault). of_map v) (sym c.stop_over.ensures ∙ c.in_ok-stop_over.was))
