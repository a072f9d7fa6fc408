-- Each way out is what the tests make of the model.
use Rattle.std.proofs.Common.{◌∙◌, sym, lit<, arith}
use borrow.Author.Tests.{eq-eqb, ne_eqb}
use Rattle.asmap_codes.specs.Row.{jump_row}
use Rattle.asmap_codes.proofs.Inside.{value_at}
use Rattle.asmap_check_act.specs.models.Act.{refusing}
use Rattle.asmap_row_decoder.proofs.WindowLaws.{row-window}
use Rattle.asmap_check_act.proofs.sanity_jump.Goals as goal

pub returns-in_default : goal.returns-in_default
unfolding refusing
returns-in_default c =
    let a = c.args in
    let code = sym (c.jump_in.ensures ∙ row-window a.map.now a.at a.w jump_row (lit< tt) c.requires.2) in
    rw (code ∙ c.in_default.is)

pub returns-then-bits-eq0 : goal.returns-then-bits-eq0
unfolding refusing
returns-then-bits-eq0 c =
    let a = c.args in
    let code = sym (c.jump_in.ensures ∙ row-window a.map.now a.at a.w jump_row (lit< tt) c.requires.2) in
    rw (code ∙ c.in-Some.is, eq-eqb _ _ c.if-bits-eq0.true)

pub overflow_cast-target : goal.overflow_cast-target
overflow_cast-target c =
    let a = c.args in
    let code = sym (c.jump_in.ensures ∙ row-window a.map.now a.at a.w jump_row (lit< tt) c.requires.2) in
    let inside = value_at a.map.now a.at jump_row _ _ (lit< tt) (code ∙ c.in-Some.is) in
    omega (arith, inside.inside)

pub overflow_add-target : goal.overflow_add-target
overflow_add-target c =
    let a = c.args in
    let code = sym (c.jump_in.ensures ∙ row-window a.map.now a.at a.w jump_row (lit< tt) c.requires.2) in
    let inside = value_at a.map.now a.at jump_row _ _ (lit< tt) (code ∙ c.in-Some.is) in
    omega (arith, inside.inside, inside.below)

pub overflow_cast-target-2 : goal.overflow_cast-target-2
overflow_cast-target-2 c =
    let a = c.args in
    let code = sym (c.jump_in.ensures ∙ row-window a.map.now a.at a.w jump_row (lit< tt) c.requires.2) in
    let inside = value_at a.map.now a.at jump_row _ _ (lit< tt) (code ∙ c.in-Some.is) in
    omega (arith, inside.inside, inside.below)

pub returns-then-past : goal.returns-then-past
unfolding refusing
returns-then-past c =
    let a = c.args in
    let code = sym (c.jump_in.ensures ∙ row-window a.map.now a.at a.w jump_row (lit< tt) c.requires.2) in
    rw (code ∙ c.in-Some.is, ne_eqb _ _ c.if-bits-eq0.false, sym c.past.ensures ∙ c.if-past.true)

pub returns : goal.returns
unfolding refusing
returns c =
    let a = c.args in
    let code = sym (c.jump_in.ensures ∙ row-window a.map.now a.at a.w jump_row (lit< tt) c.requires.2) in
    rw (code ∙ c.in-Some.is, ne_eqb _ _ c.if-bits-eq0.false, sym c.past.ensures ∙ c.if-past.false)
