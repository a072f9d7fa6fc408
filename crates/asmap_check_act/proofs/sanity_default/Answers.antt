-- Each way out is what the tests make of the model.
use Rattle.std.proofs.Common.{◌∙◌, sym, lit<}
use Rattle.asmap_codes.specs.Row.{asn_row}
use Rattle.asmap_check_act.proofs.PreviousLaws.{default_is}
use Rattle.asmap_check_act.specs.models.Act.{refusing}
use Rattle.asmap_row_decoder.proofs.WindowLaws.{row-window}
use Rattle.asmap_check_act.proofs.sanity_default.Goals as goal

pub returns-then-eq : goal.returns-then-eq
unfolding refusing
returns-then-eq c = rw (default_is _ c.eq.ensures c.if-eq.true)

pub returns-in_default : goal.returns-in_default
unfolding refusing
returns-in_default c =
    let a = c.args in
    let code = sym (c.asn_in.ensures ∙ row-window a.map.now a.at a.w asn_row (lit< tt) c.requires.2) in
    rw (default_is _ c.eq.ensures c.if-eq.false, code ∙ c.in_default.is)

pub returns : goal.returns
unfolding refusing
returns c =
    let a = c.args in
    let code = sym (c.asn_in.ensures ∙ row-window a.map.now a.at a.w asn_row (lit< tt) c.requires.2) in
    rw (default_is _ c.eq.ensures c.if-eq.false, code ∙ c.in-Some.is)
