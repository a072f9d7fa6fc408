-- At a width the bytes of the listing over its bits; at any other number 18.
use Rattle.std.proofs.Common.{◌∙◌, sym, ap}
use Rattle.asmap_program.proofs.Widths.{at_width_lem, no_width}
use Rattle.asmap_records.specs.Output.{No}
use Rattle.asmap_list.specs.List.{list_of, bytes_of}
use Rattle.asmap_list.proofs.list_bytes_bits.Goals as goal

pub returns : goal.returns
returns c =
    c.bytes_over.ensures ∙ ap bytes_of (sym (at_width_lem c.args.width No (list_of c.args.map.now c.args.width) (sym c.is_width.ensures ∙ c.if-not-is_width.false)))

pub returns-then-not-is_width : goal.returns-then-not-is_width
returns-then-not-is_width c = ap bytes_of (sym (no_width c.args.width No (list_of c.args.map.now c.args.width) (sym c.is_width.ensures ∙ c.if-not-is_width.true)))
