-- By what the call promises.
use mathlib.Core.Path.{refl}
use Rattle.asmap_codes.specs.Row.{match_row}
use Rattle.demand_statements.proofs.CodeAnswers.{code_writes}
use Rattle.demands.proofs.any_input.match_written.Goals as goal

pub returns : goal.returns
returns c = code_writes match_row 511 refl c.args.value c.corbastrigo_encode_match.ensures
