-- What is left of the window holds the operand: `operand-holds`.
use Rattle.asmap_row_decoder.proofs.OperandLaws.{operand-holds}
use Rattle.asmap_row_decoder.proofs.operand_window.Goals as goal

pub returns : goal.returns
returns c = let a = c.args in operand-holds a.map.now a.pos a.opcode a.at c.requires.1 a.w c.requires.0
