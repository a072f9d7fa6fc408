-- At a width what is built over its bits, at any other number 18.
use Rattle.std.proofs.Common.{◌∙◌, sym}
use Rattle.asmap_records.proofs.OutputLaws.{hands_at, hands_no_width}
use Rattle.asmap_build.specs.Build.{build_of}
use Rattle.asmap_build.proofs.build.Goals as goal

pub returns-then-not-is_width-clause-hands : goal.returns-then-not-is_width-clause-hands
returns-then-not-is_width-clause-hands c =
    hands_no_width c.args.width (build_of c.args.records.now c.args.given c.args.width) c.args.out.now (sym c.is_width.ensures ∙ c.if-not-is_width.true)

pub returns-clause-hands : goal.returns-clause-hands
returns-clause-hands c =
    hands_at c.args.width (build_of c.args.records.now c.args.given c.args.width) c.args.out.now _ _ (sym c.is_width.ensures ∙ c.if-not-is_width.false) c.build_over.ensures.hands
