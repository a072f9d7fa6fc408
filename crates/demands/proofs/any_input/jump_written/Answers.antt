-- By what the call promises.
use mathlib.Core.Path.{refl}
use Rattle.asmap_codes.specs.Row.{jump_row}
use Rattle.demand_statements.proofs.CodeAnswers.{code_writes}
use Rattle.demands.proofs.any_input.jump_written.Goals as goal

pub returns : goal.returns
returns c = code_writes jump_row 2147483632 refl c.args.value c.corbastrigo_encode_jump.ensures
