-- What the output will hold in the end stays the same (writing_on), up to the last record.
use Rattle.std.proofs.Common.{◌≡◌, ◌∙◌, sym, subst, arith, ℕ, List, [], ◌<◌, length, get_or}
use Rattle.byte_numbers.specs.Numbers.{number4}
use Rattle.asmap_codes.specs.Encode.{instruction_bits}
use Rattle.asmap_bit_writer.specs.declared.BitWriter.{BitWriter}
use Rattle.asmap_bit_writer.proofs.ToCome.{room}
use Rattle.asmap_pack.proofs.WriteLaws.{Writing, Turn, writing_start, writing_turn, writing_on, stream_over}
use Rattle.asmap_pack.proofs.write_records.Goals as goal

pub loop-record-init : goal.loop-record-init
loop-record-init c = writing_start c.args.records.now c.args.out.now c.requires.0 _ c.at-writer.ensures c.requires.1 c.requires.2

-- a turn, with the operand that was read
turn : (rs : List (List ℕ)) (out₀ out : List ℕ) (i : ℕ) (w : BitWriter) (v : ℕ) → i < length rs → Writing rs out₀ out i w
    → v ≡ number4 (get_or rs i []) 4 → Turn rs out₀ out i w (get_or (get_or rs i []) 0 0) v
turn rs out₀ out i w v l t e = subst (Turn rs out₀ out i w (get_or (get_or rs i []) 0 0)) (sym e) (writing_turn rs out₀ out i w l t)

pub push_instruction-requires : goal.push_instruction-requires
push_instruction-requires c =
    let a = c.args in
    let l = c.loop-record in
    let v = c.number_at in
    let t = turn a.records.now a.out.now l.out l.record-index l.writer v.result c.loop-record-test.true l.invariant v.ensures in
    (t.come.ready, t.ranged, room (instruction_bits (get_or (get_or a.records.now l.record-index []) 0 0) v.result) t.more t.come)

pub loop-record-preserved : goal.loop-record-preserved
loop-record-preserved c =
    let a = c.args in
    let l = c.loop-record in
    let v = c.number_at in
    let t = turn a.records.now a.out.now l.out l.record-index l.writer v.result c.loop-record-test.true l.invariant v.ensures in
    writing_on _ _ _ _ _ (get_or (get_or a.records.now l.record-index []) 0 0) v.result t _ _ c.push_instruction.ensures

pub finish-requires : goal.finish-requires
finish-requires c = let t = c.loop-record.invariant.come in (t.ready, omega (arith, t.fits))

pub returns : goal.returns
returns c =
    let l = c.loop-record in
    c.finish.ensures ∙ sym (stream_over c.args.records.now c.args.out.now l.out l.record-index l.writer l.invariant (omega arith))
