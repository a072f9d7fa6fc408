-- What was read is the code of the map, and the rows of `StepLaws` say what it does; the stack has room, since each entry has used a bit.
use Rattle.std.proofs.Common.{◌+◌, refl, ◌∙◌, arith}
use lib.Dec.{lit<}
use Rattle.asmap_program.specs.Map.{JUMP}
use Rattle.asmap_codes.specs.Row.{jump_row}
use Rattle.asmap_list_step.proofs.StepLaws.{from_near, was_read, depth_bound, operand_cut, at-jump, at-jump_full}
use Rattle.asmap_list_step.proofs.step_jump.Goals as goal

pub jump_in-requires : goal.jump_in-requires
jump_in-requires c = from_near c.args.map.now c.args.s JUMP c.args.from c.requires.1 c.requires.0

pub returns-in_default : goal.returns-in_default
returns-in_default c =
    operand_cut c.args.map.now c.args.s c.args.stack.now.bits c.args.stack.now.numbers c.requires.3 JUMP _ c.requires.1
    (was_read c.args.map.now c.args.from c.args.w jump_row (lit< tt) c.requires.2 c.jump_in.ensures ∙ c.in_default.is)

pub returns-then-used : goal.returns-then-used
returns-then-used c =
    at-jump_full c.args.map.now c.args.s c.args.stack.now.bits c.args.stack.now.numbers c.requires.3 JUMP _ c.requires.1 _ _
    (was_read c.args.map.now c.args.from c.args.w jump_row (lit< tt) c.requires.2 c.jump_in.ensures ∙ c.in-Some.is) refl c.if-used.true

pub bounds-stack-depth : goal.bounds-stack-depth
bounds-stack-depth c =
    omega (arith, depth_bound c.args.map.now c.args.s c.args.stack.now.bits c.args.stack.now.numbers c.requires.3, c.requires.3.bits, c.requires.3.rooms.0)

pub offset_bounds-stack-depth : goal.offset_bounds-stack-depth
offset_bounds-stack-depth c =
    omega (arith, depth_bound c.args.map.now c.args.s c.args.stack.now.bits c.args.stack.now.numbers c.requires.3, c.requires.3.bits)

pub bounds-stack-depth-2 : goal.bounds-stack-depth-2
bounds-stack-depth-2 c =
    omega (arith, depth_bound c.args.map.now c.args.s c.args.stack.now.bits c.args.stack.now.numbers c.requires.3, c.requires.3.bits, c.requires.3.rooms.1)

pub overflow_add-result-2 : goal.overflow_add-result-2
overflow_add-result-2 c =
    omega (arith, depth_bound c.args.map.now c.args.s c.args.stack.now.bits c.args.stack.now.numbers c.requires.3, c.requires.3.bits)

pub returns : goal.returns
returns c =
    at-jump c.args.map.now c.args.s c.args.stack.now.bits c.args.stack.now.numbers c.requires.3 JUMP _ c.requires.1 _ _
    (was_read c.args.map.now c.args.from c.args.w jump_row (lit< tt) c.requires.2 c.jump_in.ensures ∙ c.in-Some.is)
    (c.args.s.used + 1) (c.args.s.depth + 1) refl (omega (arith, c.requires.3.bits)) (omega arith) (omega arith)
