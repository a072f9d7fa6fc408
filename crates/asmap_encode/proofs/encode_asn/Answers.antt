-- What was found in the row is written as its code (coded_written).
use Rattle.std.proofs.Common.{◌∙◌}
use Rattle.asmap_codes.specs.Row.{asn_row}
use Rattle.asmap_encode.specs.Write.{none}
use Rattle.asmap_encode.proofs.WordLaws.{coded_written}
use Rattle.asmap_encode.proofs.encode_asn.Goals as goal

pub returns : goal.returns
returns c = c.write.ensures ∙ coded_written none asn_row c.args.value c.asn_parts.result c.asn_parts.ensures
