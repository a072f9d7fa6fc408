-- The lengths of both codes (length_both), or 0 where either is out of range.
use Rattle.asmap_encode.proofs.InstructionLaws.{length_both, length_no_opcode, length_no_operand}
use Rattle.asmap_encode.proofs.instruction_length.Goals as goal

pub returns-in_default : goal.returns-in_default
returns-in_default c = length_no_opcode c.args.opcode c.args.operand c.in_default.ensures

pub returns-in_default-operand_parts : goal.returns-in_default-operand_parts
returns-in_default-operand_parts c = length_no_operand c.args.opcode c.args.operand c.in-Some.ensures.ranged c.in_default-operand_parts.ensures

pub returns : goal.returns
returns c =
    length_both c.args.opcode c.args.operand c.in-Some.prefix c.in-Some.parts c.in-Some-operand_parts.next_prefix c.in-Some-operand_parts.next c.in-Some.ensures c.in-Some-operand_parts.ensures
