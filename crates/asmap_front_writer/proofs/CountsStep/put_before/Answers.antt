-- Where nothing is written an instruction's length is counted (measured).
use Rattle.std.proofs.Common.{false, refl, arith}
use Rattle.asmap_front_writer.proofs.EmittedLaws.{measured, emitted_counted}
use Rattle.asmap_front_writer.proofs.CountsStep.put_before.Goals as goal

pub overflow_add-result : goal.overflow_add-result
overflow_add-result c =
    let m = measured c.args.opcode c.args.operand c.instruction_length.result c.requires.ranged c.instruction_length.ensures in
    omega (arith, m.short, c.requires.few)

pub returns : goal.returns
returns c =
    let a = c.args in
    let n = c.instruction_length.result in
    emitted_counted a._out.now a.front a.opcode a.operand false n (measured a.opcode a.operand n c.requires.ranged c.instruction_length.ensures) refl
