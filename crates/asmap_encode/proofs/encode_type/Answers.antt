-- What was found in the row is written as its code (coded_written).
use Rattle.std.proofs.Common.{◌∙◌}
use Rattle.asmap_codes.specs.Row.{type_row}
use Rattle.asmap_encode.specs.Write.{none}
use Rattle.asmap_encode.proofs.WordLaws.{coded_written}
use Rattle.asmap_encode.proofs.encode_type.Goals as goal

pub returns : goal.returns
returns c = c.write.ensures ∙ coded_written none type_row c.args.value c.type_parts.result c.type_parts.ensures
