-- At a width what unpack makes over its bits; at any other number 18.
use Rattle.std.proofs.Common.{◌∙◌, sym}
use Rattle.asmap_records.specs.Unpack.{unpack_of}
use Rattle.asmap_records.proofs.OutputLaws.{hands_at, hands_no_width}
use Rattle.asmap_unpack.proofs.unpack_bits.Goals as goal

pub returns-then-not-is_width : goal.returns-then-not-is_width
returns-then-not-is_width c =
    let a = c.args in
    hands_no_width a.width (unpack_of a.map.now a.width) a.out.now (sym c.is_width.ensures ∙ c.if-not-is_width.true)

pub returns : goal.returns
returns c =
    let a = c.args in
    hands_at a.width (unpack_of a.map.now a.width) a.out.now _ _ (sym c.is_width.ensures ∙ c.if-not-is_width.false) c.unpack_over.ensures
