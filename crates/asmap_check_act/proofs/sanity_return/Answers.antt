-- Each way out is what the tests make of the model.
use Rattle.std.proofs.Common.{◌∙◌, sym, lit<}
use borrow.Author.Tests.{eq-eqb, ne_eqb}
use Rattle.asmap_codes.specs.Row.{asn_row}
use Rattle.asmap_codes.proofs.Inside.{value_at}
use Rattle.asmap_check_act.proofs.PreviousLaws.{default_is}
use Rattle.asmap_check_act.specs.models.Act.{refusing}
use Rattle.asmap_row_decoder.proofs.WindowLaws.{row-window}
use Rattle.asmap_check_act.proofs.sanity_return.Goals as goal

pub returns-then-eq : goal.returns-then-eq
unfolding refusing
returns-then-eq c = rw (default_is _ c.eq.ensures c.if-eq.true)

pub returns-in_default : goal.returns-in_default
unfolding refusing
returns-in_default c =
    let a = c.args in
    let code = sym (c.asn_in.ensures ∙ row-window a.map.now a.at a.w asn_row (lit< tt) c.requires.2) in
    rw (default_is _ c.eq.ensures c.if-eq.false, code ∙ c.in_default.is)

pub padded-requires : goal.padded-requires
padded-requires c =
    let a = c.args in
    let code = sym (c.asn_in.ensures ∙ row-window a.map.now a.at a.w asn_row (lit< tt) c.requires.2) in
    (c.requires.0, (value_at a.map.now a.at asn_row _ _ (lit< tt) (code ∙ c.in-Some.is)).inside)

pub returns-then-padded : goal.returns-then-padded
unfolding refusing
returns-then-padded c =
    let a = c.args in
    let code = sym (c.asn_in.ensures ∙ row-window a.map.now a.at a.w asn_row (lit< tt) c.requires.2) in
    rw (default_is _ c.eq.ensures c.if-eq.false, code ∙ c.in-Some.is, eq-eqb _ _ c.if-depth-eq0.true, sym c.padded.ensures ∙ c.if-padded.true)

pub returns-then-depth-eq0 : goal.returns-then-depth-eq0
unfolding refusing
returns-then-depth-eq0 c =
    let a = c.args in
    let code = sym (c.asn_in.ensures ∙ row-window a.map.now a.at a.w asn_row (lit< tt) c.requires.2) in
    rw (default_is _ c.eq.ensures c.if-eq.false, code ∙ c.in-Some.is, eq-eqb _ _ c.if-depth-eq0.true, sym c.padded.ensures ∙ c.if-padded.false)

pub returns-then-next-top : goal.returns-then-next-top
unfolding refusing
returns-then-next-top c =
    let a = c.args in
    let code = sym (c.asn_in.ensures ∙ row-window a.map.now a.at a.w asn_row (lit< tt) c.requires.2) in
    rw (default_is _ c.eq.ensures c.if-eq.false, code ∙ c.in-Some.is, ne_eqb _ _ c.if-depth-eq0.false, eq-eqb _ _ c.if-next-top.true)

pub returns : goal.returns
unfolding refusing
returns c =
    let a = c.args in
    let code = sym (c.asn_in.ensures ∙ row-window a.map.now a.at a.w asn_row (lit< tt) c.requires.2) in
    rw (default_is _ c.eq.ensures c.if-eq.false, code ∙ c.in-Some.is, ne_eqb _ _ c.if-depth-eq0.false, ne_eqb _ _ c.if-next-top.false)
