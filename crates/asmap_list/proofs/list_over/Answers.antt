-- The check's count decides.
use Rattle.std.proofs.Common.{◌∙◌, sym, arith}
use Rattle.std.proofs.lemmas.Result.{err_from_is_err_and}
use Rattle.asmap_codes.specs.Instruction.{map_of}
use Rattle.asmap_records.proofs.OutputLaws.{hands_no, hands_short, hands_made}
use Rattle.prefix_records.specs.Record.{records_of}
use Rattle.asmap_listing.specs.Listing.{listing}
use Rattle.asmap_list.specs.List.{list_of}
use Rattle.asmap_list.proofs.CallLaws.{counts, refuses}
use Rattle.asmap_list.proofs.list_over.Goals as goal

pub returns-then-out-pieces : goal.returns-then-out-pieces
returns-then-out-pieces c =
    let m = c.args.map.now in
    let k = counts m c.args.bits c.requires _ (sym c.in_ok-pieces.was ∙ c.sanity_check_pieces.ensures.0) in
    hands_short (list_of m c.args.bits) c.args.out.now (records_of (listing (map_of m))) k.made (omega (arith, k.long, c.if-out-pieces.true))

pub put_listing-requires : goal.put_listing-requires
put_listing-requires c =
    let k = counts c.args.map.now c.args.bits c.requires _ (sym c.in_ok-pieces.was ∙ c.sanity_check_pieces.ensures.0) in
    (k.within, omega (arith, c.if-out-pieces.false), k.listed)

pub returns-in_err-pieces : goal.returns-in_err-pieces
returns-in_err-pieces c =
    let m = c.args.map.now in
    let p = err_from_is_err_and c.from_residual.result c.from_residual.ensures.1 in
    rw (p.1, p.2)
    (hands_no (list_of m c.args.bits) c.args.out.now _ (refuses m c.args.bits c.requires _ (sym c.in_err-pieces.was ∙ c.sanity_check_pieces.ensures.0)))

pub returns : goal.returns
returns c =
    let m = c.args.map.now in
    let k = counts m c.args.bits c.requires _ (sym c.in_ok-pieces.was ∙ c.sanity_check_pieces.ensures.0) in
    hands_made (list_of m c.args.bits) c.args.out.now (records_of (listing (map_of m))) _ _ k.made (omega (arith, k.long)) (omega (arith, k.long, c.if-out-pieces.false)) c.put_listing.ensures
