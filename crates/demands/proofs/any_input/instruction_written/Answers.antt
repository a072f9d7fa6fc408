-- By what the call promises.
use Rattle.demand_statements.proofs.CodeAnswers.{instruction_writes}
use Rattle.demands.proofs.any_input.instruction_written.Goals as goal

pub returns : goal.returns
returns c = let a = c.args in instruction_writes a.opcode a.operand c.corbastrigo_encode_instruction.ensures
