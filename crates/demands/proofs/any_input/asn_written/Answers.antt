-- By what the call promises.
use mathlib.Core.Path.{refl}
use Rattle.asmap_codes.specs.Row.{asn_row}
use Rattle.demand_statements.proofs.CodeAnswers.{code_writes}
use Rattle.demands.proofs.any_input.asn_written.Goals as goal

pub returns : goal.returns
returns c = code_writes asn_row 33521664 refl c.args.value c.corbastrigo_encode_asn.ensures
