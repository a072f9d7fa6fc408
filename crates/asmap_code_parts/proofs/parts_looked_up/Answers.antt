-- A size that has what is left ends the loop (stopped), another is passed (passed), and the last one has what is left (last).
use Rattle.std.proofs.Common.{◌≡◌, ◌-◌, length, arith}
use Rattle.asmap_codes.proofs.CodeLaws.{size_small}
use Rattle.asmap_code_parts.proofs.LookedUp.{passed, stopped, last}
use Rattle.asmap_code_parts.proofs.parts_looked_up.Goals as goal

pub power-step-requires : goal.power-step-requires
power-step-requires c = let z = size_small c.args.sizes.now c.loop-ones.ones c.loop-ones.invariant.inside c.loop-ones.invariant.short in omega arith

pub returns-then-rest-step : goal.returns-then-rest-step
returns-then-rest-step c =
    let l = c.loop-ones in
    stopped c.args.sizes.now c.args.x l.rest l.ones (omega arith) l.invariant (omega (arith, c.if-rest-step.true, c.power-step.ensures))

pub loop-ones-preserved : goal.loop-ones-preserved
loop-ones-preserved c =
    let l = c.loop-ones in
    passed c.args.sizes.now c.args.x l.rest l.ones c.power-step.result (omega arith) l.invariant c.power-step.ensures c.if-rest-step.false

pub returns : goal.returns
returns c =
    let l = c.loop-ones in
    let e : l.ones ≡ length c.args.sizes.now - 1 = omega arith in
    rw (← e) (last c.args.sizes.now c.args.x l.rest l.ones (omega arith) l.invariant)
