-- An instruction in range is not refused (written_never), and its word holds its bits (written_some).
use Rattle.std.proofs.Common.{true, refl, sym}
use Rattle.asmap_bit_writer.proofs.WrittenLaws.{written_some, written_never}
use Rattle.asmap_front_writer.proofs.EmittedLaws.{room_word, emitted_written}
use Rattle.asmap_front_writer.proofs.WritesStep.put_before.Goals as goal

pub returns-in_default : goal.returns-in_default
returns-in_default c = absurd (written_never c.args.opcode c.args.operand c.in_default.field-0 c.requires.ranged (sym c.in_default.ensures))

pub put_word_before-requires : goal.put_word_before-requires
put_word_before-requires c =
    let a = c.args in
    let u = written_some a.opcode a.operand c.in-Ok.word (sym c.in-Ok.ensures) in
    (room_word a.out.now a.front a.opcode a.operand true c.in-Ok.word u refl c.requires, u.small, u.short, c.requires.few)

pub returns : goal.returns
returns c =
    let a = c.args in
    let u = written_some a.opcode a.operand c.in-Ok.word (sym c.in-Ok.ensures) in
    let e = c.put_word_before.ensures in
    emitted_written a.out.now a.front a.opcode a.operand true c.in-Ok.word u refl c.put_word_before.new.out c.put_word_before.result e.0 e.1 e.2
