-- The operand's code comes after the opcode's.
use Rattle.std.proofs.Common.{◌∙◌, sym}
use Rattle.std.proofs.lemmas.Result.{err_from_is_err_and}
use Rattle.asmap_codes.specs.Row.{operand_row}
use Rattle.asmap_encode.proofs.WordLaws.{coded_written}
use Rattle.asmap_encode.proofs.InstructionLaws.{operand_after, opcode_refused}
use Rattle.asmap_encode.proofs.encode_instruction.Goals as goal

pub returns-in_err-code : goal.returns-in_err-code
returns-in_err-code c =
    let p = err_from_is_err_and c.from_residual.result c.from_residual.ensures.1 in
    rw (p.1, p.2) (sym (opcode_refused c.args.opcode c.args.operand c.in_err-code.field-0.0 (sym c.encode_type.ensures ∙ c.in_err-code.was)))

pub returns : goal.returns
returns c =
    let a = c.args in
    let w = c.in_ok-code.code in
    c.write.ensures
    ∙ coded_written w (operand_row a.opcode) a.operand c.operand_parts.result c.operand_parts.ensures
    ∙ operand_after a.opcode w (sym c.encode_type.ensures ∙ c.in_ok-code.was) a.operand
