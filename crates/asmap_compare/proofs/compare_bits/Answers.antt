-- At a width what the comparison makes over its bits; at any other number 18. The law of changes holds over every number of bits.
use Rattle.std.proofs.Common.{◌∙◌, sym}
use Rattle.refusals.specs.declared.Refusal.TheVariants as refusal
use Rattle.asmap_program.proofs.Widths.{at_width_lem, no_width}
use Rattle.asmap_compare.specs.Compare.{Refuses, comparison}
use Rattle.asmap_compare.proofs.CallLaws.{hands_same, hands_refused, compared}
use Rattle.asmap_compare.proofs.compare_bits.Goals as goal

pub returns-clause-hands : goal.returns-clause-hands
returns-clause-hands c =
    let x = comparison c.args.old.now c.args.new.now c.args.width in
    hands_same _ x c.args.out.now _ _ (at_width_lem c.args.width Refuses x (sym c.is_width.ensures ∙ c.if-not-is_width.false)) c.compare_over.ensures

pub returns-clause-compares : goal.returns-clause-compares
returns-clause-compares c = compared c.args.old.now c.args.new.now c.args.width

pub returns-then-not-is_width-clause-hands : goal.returns-then-not-is_width-clause-hands
returns-then-not-is_width-clause-hands c =
    let x = comparison c.args.old.now c.args.new.now c.args.width in
    hands_refused _ c.args.out.now refusal.Width (no_width c.args.width Refuses x (sym c.is_width.ensures ∙ c.if-not-is_width.true))

pub returns-then-not-is_width-clause-compares : goal.returns-then-not-is_width-clause-compares
returns-then-not-is_width-clause-compares c = compared c.args.old.now c.args.new.now c.args.width
