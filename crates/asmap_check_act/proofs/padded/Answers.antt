-- No more than 7 bits, and none of those passed is a one.
use Rattle.std.proofs.Common.{◌∙◌, sym, arith}
use Rattle.asmap_check_act.proofs.PaddingLaws.{padded_short, zero_on, zero_off, zero_end}
use Rattle.asmap_check_act.proofs.padded.Goals as goal

pub returns-then-bit_at-eq1 : goal.returns-then-bit_at-eq1
returns-then-bit_at-eq1 c =
    let a = c.args in
    let l = c.loop-pos in
    sym (l.invariant ∙ zero_off a.map.now l.pos (omega arith) (sym c.bit_at.ensures ∙ c.if-bit_at-eq1.true)) ∙ padded_short a.map.now a.at (omega arith)

pub loop-pos-preserved : goal.loop-pos-preserved
loop-pos-preserved c = let l = c.loop-pos in l.invariant ∙ zero_on c.args.map.now l.pos (omega arith) (omega arith)

pub returns : goal.returns
returns c =
    let a = c.args in
    let l = c.loop-pos in
    sym (l.invariant ∙ zero_end a.map.now l.pos (omega arith)) ∙ padded_short a.map.now a.at (omega arith)
