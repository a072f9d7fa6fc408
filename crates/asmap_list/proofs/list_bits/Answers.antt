-- At a width what the listing makes over its bits; at any other number 18. Every map that is accepted is covered.
use Rattle.std.proofs.Common.{◌∙◌, sym}
use Rattle.asmap_records.proofs.OutputLaws.{hands_at, hands_no_width}
use Rattle.asmap_list.specs.List.{list_of}
use Rattle.asmap_list.proofs.CallLaws.{covered}
use Rattle.asmap_list.proofs.list_bits.Goals as goal

pub returns-clause-hands : goal.returns-clause-hands
returns-clause-hands c =
    hands_at c.args.width (list_of c.args.map.now c.args.width) c.args.out.now _ _ (sym c.is_width.ensures ∙ c.if-not-is_width.false) c.list_over.ensures

pub returns-clause-covers : goal.returns-clause-covers
returns-clause-covers c = covered c.args.map.now c.args.width

pub returns-then-not-is_width-clause-hands : goal.returns-then-not-is_width-clause-hands
returns-then-not-is_width-clause-hands c =
    hands_no_width c.args.width (list_of c.args.map.now c.args.width) c.args.out.now (sym c.is_width.ensures ∙ c.if-not-is_width.true)

pub returns-then-not-is_width-clause-covers : goal.returns-then-not-is_width-clause-covers
returns-then-not-is_width-clause-covers c = covered c.args.map.now c.args.width
