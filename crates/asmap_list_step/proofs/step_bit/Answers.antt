-- By the rows of `StepLaws` on a bit of a MATCH; the stack has room, since each entry has used a bit.
use Rattle.std.proofs.Common.{◌+◌, ◌-◌, refl, arith}
use Rattle.asmap_list_step.proofs.StepLaws.{depth_bound, bit-gives, bit_goes}
use Rattle.asmap_list_step.proofs.step_bit.Goals as goal

pub returns-then-s-left-eq1 : goal.returns-then-s-left-eq1
returns-then-s-left-eq1 c =
    bit-gives c.args.map.now c.args.s c.args.stack.now.bits c.args.stack.now.numbers c.requires.0
    (c.args.s.left - 1) (c.args.s.used + 1) c.requires.1 (omega (arith, c.requires.2)) c.if-s-left-eq1.true (omega arith)

pub bounds-stack-depth : goal.bounds-stack-depth
bounds-stack-depth c =
    omega (arith, depth_bound c.args.map.now c.args.s c.args.stack.now.bits c.args.stack.now.numbers c.requires.0, c.requires.0.bits, c.requires.0.rooms.0, c.requires.2)

pub offset_bounds-stack-depth : goal.offset_bounds-stack-depth
offset_bounds-stack-depth c =
    omega (arith, depth_bound c.args.map.now c.args.s c.args.stack.now.bits c.args.stack.now.numbers c.requires.0, c.requires.0.bits)

pub bounds-stack-depth-2 : goal.bounds-stack-depth-2
bounds-stack-depth-2 c =
    omega (arith, depth_bound c.args.map.now c.args.s c.args.stack.now.bits c.args.stack.now.numbers c.requires.0, c.requires.0.bits, c.requires.0.rooms.1, c.requires.2)

pub overflow_add-result : goal.overflow_add-result
overflow_add-result c =
    omega (arith, depth_bound c.args.map.now c.args.s c.args.stack.now.bits c.args.stack.now.numbers c.requires.0, c.requires.0.bits)

pub returns : goal.returns
returns c =
    bit_goes c.args.map.now c.args.s c.args.stack.now.bits c.args.stack.now.numbers c.requires.0
    (c.args.s.left - 1) (c.args.s.used + 1) (c.args.s.depth + 1) (c.args.s.used + 128) c.requires.1 (omega (arith, c.requires.2)) (omega (arith, c.if-s-left-eq1.false))
    (omega (arith, depth_bound c.args.map.now c.args.s c.args.stack.now.bits c.args.stack.now.numbers c.requires.0, c.requires.0.bits, c.requires.2)) (omega arith) (omega arith) refl
