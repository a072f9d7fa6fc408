-- The word that is pushed holds the instruction's bits (written_some), and an instruction in range is not refused (written_never).
use Rattle.std.proofs.Common.{arith, sym}
use Rattle.asmap_bit_writer.proofs.WriterLaws.{moved_as}
use Rattle.asmap_bit_writer.proofs.WrittenLaws.{written_some, written_never}
use Rattle.asmap_bit_writer.proofs.BitWriter.push_instruction.Goals as goal

pub returns-in_default : goal.returns-in_default
returns-in_default c = absurd (written_never c.args.opcode c.args.operand c.in_default.field-0 c.requires.1 (sym c.in_default.ensures))

pub push_word-requires : goal.push_word-requires
push_word-requires c =
    let u = written_some c.args.opcode c.args.operand c.in-Ok.word (sym c.in-Ok.ensures) in
    (c.requires.0, u.small, omega (arith, u.short), omega (arith, u.len, c.requires.2))

pub returns-in-Ok : goal.returns-in-Ok
returns-in-Ok c =
    let u = written_some c.args.opcode c.args.operand c.in-Ok.word (sym c.in-Ok.ensures) in
    moved_as c.push_word.ensures u.bits
