-- At a width the walk by so many bits; at any other number 18; with all that the call promises.
use Rattle.std.proofs.Common.{◌≡◌, ◌∙◌, ℕ, true, List, sym, Result, Err}
use Rattle.asmap_program.specs.Widths.{is_width}
use Rattle.asmap_program.proofs.Widths.{at_width_lem, no_width}
use Rattle.asmap_walk.specs.Interpret.{interpret_over, interpret_at}
use Rattle.asmap_walk.proofs.Promised.{promised_at}
use Rattle.asmap_walk.proofs.interpret_bits.Goals as goal
use Rattle.asmap_walk_bits.specs.declared.Ending.{Ending}
use Rattle.refusals.specs.declared.Refusal.{Refusal}

-- at a width the call answers what the walk by so many bits does
walked : (m a : List ℕ) (w : ℕ) (r : Result Ending Refusal) → r ≡ interpret_over m a w → is_width w ≡ true → r ≡ interpret_at m a w
walked m a w r e t = e ∙ sym (at_width_lem w Err (interpret_over m a w) t)

pub returns-clause-walked : goal.returns-clause-walked
returns-clause-walked c = walked c.args.map.now c.args.address.now c.args.width _ c.walk_over.ensures (sym c.is_width.ensures ∙ c.if-not-is_width.false)

pub returns-clause-demand3 : goal.returns-clause-demand3
returns-clause-demand3 c =
    let a = c.args in
    (promised_at a.map.now a.address.now a.width _ (walked a.map.now a.address.now a.width _ c.walk_over.ensures (sym c.is_width.ensures ∙ c.if-not-is_width.false))).1.0

pub returns-clause-core : goal.returns-clause-core
returns-clause-core c =
    let a = c.args in
    (promised_at a.map.now a.address.now a.width _ (walked a.map.now a.address.now a.width _ c.walk_over.ensures (sym c.is_width.ensures ∙ c.if-not-is_width.false))).1.1

pub returns-then-not-is_width-clause-walked : goal.returns-then-not-is_width-clause-walked
returns-then-not-is_width-clause-walked c =
    let a = c.args in
    sym (no_width a.width Err (interpret_over a.map.now a.address.now a.width) (sym c.is_width.ensures ∙ c.if-not-is_width.true))
