-- By the rows of `StepLaws` on the stack's turn.
use Rattle.std.proofs.Common.{◌-◌, refl, arith}
use Rattle.asmap_list_step.proofs.StepLaws.{depth_bound, up_ends, up_goes, up-gives}
use Rattle.asmap_list_step.proofs.step_up.Goals as goal

pub returns-then-depth-eq0 : goal.returns-then-depth-eq0
returns-then-depth-eq0 c =
    up_ends c.args.map.now c.args.s c.args.stack.now.bits c.args.stack.now.numbers c.requires.0 c.requires.1 c.if-depth-eq0.true

pub bounds-stack-top : goal.bounds-stack-top
bounds-stack-top c =
    omega (arith, depth_bound c.args.map.now c.args.s c.args.stack.now.bits c.args.stack.now.numbers c.requires.0, c.requires.0.bits, c.requires.0.rooms.0, c.if-depth-eq0.false)

pub offset_bounds-stack-top : goal.offset_bounds-stack-top
offset_bounds-stack-top c =
    omega (arith, depth_bound c.args.map.now c.args.s c.args.stack.now.bits c.args.stack.now.numbers c.requires.0, c.requires.0.bits)

pub bounds-stack-top-2 : goal.bounds-stack-top-2
bounds-stack-top-2 c =
    omega (arith, depth_bound c.args.map.now c.args.s c.args.stack.now.bits c.args.stack.now.numbers c.requires.0, c.requires.0.bits, c.requires.0.rooms.1, c.if-depth-eq0.false)

pub returns-then-bit-lt128 : goal.returns-then-bit-lt128
returns-then-bit-lt128 c =
    up_goes c.args.map.now c.args.s c.args.stack.now.bits c.args.stack.now.numbers c.requires.0
    (c.args.s.depth - 1) _ _ _ c.requires.1 (omega (arith, c.if-depth-eq0.false)) refl refl c.if-bit-lt128.true (omega arith)

pub returns : goal.returns
returns c =
    up-gives c.args.map.now c.args.s c.args.stack.now.bits c.args.stack.now.numbers c.requires.0
    (c.args.s.depth - 1) _ _ c.requires.1 (omega (arith, c.if-depth-eq0.false)) refl refl c.if-bit-lt128.false
