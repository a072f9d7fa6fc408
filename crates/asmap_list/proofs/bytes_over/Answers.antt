-- 24 bytes for each piece that the check counted.
use Rattle.std.proofs.Common.{◌∙◌, sym, ap, Ok}
use Rattle.std.proofs.lemmas.Result.{err_from_is_err_and}
use Rattle.asmap_list.specs.List.{bytes_of}
use Rattle.asmap_list.proofs.CallLaws.{counts, refuses}
use Rattle.asmap_list.proofs.bytes_over.Goals as goal

pub returns-in_err-sanity_check_pieces : goal.returns-in_err-sanity_check_pieces
returns-in_err-sanity_check_pieces c =
    let p = err_from_is_err_and c.from_residual.result c.from_residual.ensures.1 in
    let r = refuses c.args.map.now c.args.bits c.requires _ (sym c.in_err-sanity_check_pieces.was ∙ c.sanity_check_pieces.ensures.0) in
    rw (p.1, p.2) (sym (ap bytes_of r))

pub returns : goal.returns
returns c =
    let k = counts c.args.map.now c.args.bits c.requires _ (sym c.in_ok-sanity_check_pieces.was ∙ c.sanity_check_pieces.ensures.0) in
    ap Ok (sym k.long) ∙ sym (ap bytes_of k.made)
