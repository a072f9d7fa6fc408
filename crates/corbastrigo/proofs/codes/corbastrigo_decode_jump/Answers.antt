-- The code that was read is what Core reads.
use Rattle.answers.proofs.Promised.{core_code}
use Rattle.corbastrigo.proofs.codes.corbastrigo_decode_jump.Goals as goal

pub returns-clause-core : goal.returns-clause-core
returns-clause-core c = core_code c.args.map.now c.args.at c.decode_jump.result _ c.decode_jump.ensures.core c.hand_code.ensures
