-- By what the call promises.
use Rattle.demand_statements.proofs.CodeAnswers.{instruction_reads}
use Rattle.demands.proofs.any_input.instruction_read.Goals as goal

pub returns : goal.returns
returns c = let a = c.args in instruction_reads a.map.now a.at c.corbastrigo_decode_instruction.ensures
