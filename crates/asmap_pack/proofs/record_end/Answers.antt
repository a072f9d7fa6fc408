-- Each return is one of the laws of the record at a byte (SizeLaws).
use Rattle.std.proofs.Common.{◌≡◌, ◌∙◌, sym, ap, arith, ℕ}
use lib.ListN.{get_or}
use Rattle.asmap_encode.specs.models.Words.{length_written}
use Rattle.asmap_encode.specs.Write.{write_instruction}
use Rattle.byte_numbers.specs.Numbers.{number4}
use Rattle.asmap_bit_writer.proofs.WrittenLaws.{Measured, measured_some, measured_none}
use Rattle.asmap_pack.proofs.SizeLaws.{end_range, end_wrong, end_long, end_made}
use Rattle.asmap_pack.proofs.record_end.Goals as goal

-- how many bits are written for the opcode and the operand that were read
counted : (op v v' len : ℕ) → v' ≡ v → len ≡ length_written (write_instruction op v') → len ≡ length_written (write_instruction op v)
counted op v v' len e h = h ∙ ap (λ (y : ℕ). length_written (write_instruction op y)) e

pub returns-then-len-eq0 : goal.returns-then-len-eq0
returns-then-len-eq0 c =
    let a = c.args in
    let rs = a.record.now in
    let len = c.instruction_length-len in
    end_range rs a.at
    (measured_none (get_or rs 0 0) (number4 rs 4) len.result (counted _ _ _ _ c.number_at-operand.ensures len.ensures) c.if-len-eq0.true)

-- the record is in range, and has so many bits
measured : (op v v' len : ℕ) → v' ≡ v → len ≡ length_written (write_instruction op v') → (len ≡ 0 → ⊥) → Measured op v len
measured op v v' len e h n = measured_some op v len (counted op v v' len e h) n

pub overflow_add-end : goal.overflow_add-end
overflow_add-end c =
    let m = measured _ _ _ _ c.number_at-operand.ensures c.instruction_length-len.ensures c.if-len-eq0.false in
    omega (arith, m.short)

pub returns-then-not-sized : goal.returns-then-not-sized
returns-then-not-sized c =
    let a = c.args in
    end_wrong a.record.now a.at _ _ _ _ (measured _ _ _ _ c.number_at-operand.ensures c.instruction_length-len.ensures c.if-len-eq0.false)
    c.number_at.ensures c.number_at-2.ensures c.number_at-3.ensures c.if-not-sized.either

pub returns-then-end : goal.returns-then-end
returns-then-end c =
    let a = c.args in
    let k = c.if-not-sized.false in
    end_long a.record.now a.at _ (measured _ _ _ _ c.number_at-operand.ensures c.instruction_length-len.ensures c.if-len-eq0.false)
    (sym c.number_at.ensures ∙ k.0)
    (sym c.number_at-2.ensures ∙ k.1)
    (sym c.number_at-3.ensures ∙ k.2)
    (omega arith)

pub returns : goal.returns
returns c =
    let a = c.args in
    let k = c.if-not-sized.false in
    end_made a.record.now a.at _ (measured _ _ _ _ c.number_at-operand.ensures c.instruction_length-len.ensures c.if-len-eq0.false)
    (sym c.number_at.ensures ∙ k.0)
    (sym c.number_at-2.ensures ∙ k.1)
    (sym c.number_at-3.ensures ∙ k.2)
    (omega arith)
