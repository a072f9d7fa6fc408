-- Each way out is what the tests make of the model.
use Rattle.std.proofs.Common.{◌∙◌, sym, lit<, arith}
use borrow.Author.Tests.{lt-ltb, le-ltb}
use Rattle.asmap_codes.specs.Row.{match_row}
use Rattle.asmap_codes.proofs.Inside.{value_at}
use Rattle.asmap_check_act.specs.models.Act.{refusing}
use Rattle.asmap_row_decoder.proofs.WindowLaws.{row-window}
use Rattle.asmap_check_act.proofs.sanity_match.Goals as goal

pub returns-in_default : goal.returns-in_default
unfolding refusing
returns-in_default c =
    let a = c.args in
    let code = sym (c.match_in.ensures ∙ row-window a.map.now a.at a.w match_row (lit< tt) c.requires.2) in
    rw (code ∙ c.in_default.is)

pub match_length-length-requires : goal.match_length-length-requires
match_length-length-requires c =
    let a = c.args in
    let code = sym (c.match_in.ensures ∙ row-window a.map.now a.at a.w match_row (lit< tt) c.requires.2) in
    let inside = value_at a.map.now a.at match_row _ _ (lit< tt) (code ∙ c.in-Some.is) in
    omega (arith, inside.above)

pub returns-then-short_again : goal.returns-then-short_again
unfolding refusing
returns-then-short_again c =
    let a = c.args in
    let code = sym (c.match_in.ensures ∙ row-window a.map.now a.at a.w match_row (lit< tt) c.requires.2) in
    rw (code ∙ c.in-Some.is, ← c.match_length-length.ensures, sym c.short_again.ensures ∙ c.if-short_again.true)

pub returns-then-bits-length : goal.returns-then-bits-length
unfolding refusing
returns-then-bits-length c =
    let a = c.args in
    let code = sym (c.match_in.ensures ∙ row-window a.map.now a.at a.w match_row (lit< tt) c.requires.2) in
    rw (code ∙ c.in-Some.is, ← c.match_length-length.ensures, sym c.short_again.ensures ∙ c.if-short_again.false, lt-ltb _ _ c.if-bits-length.true)

pub returns : goal.returns
unfolding refusing
returns c =
    let a = c.args in
    let code = sym (c.match_in.ensures ∙ row-window a.map.now a.at a.w match_row (lit< tt) c.requires.2) in
    rw (code ∙ c.in-Some.is, ← c.match_length-length.ensures, sym c.short_again.ensures ∙ c.if-short_again.false, le-ltb _ _ c.if-bits-length.false)
