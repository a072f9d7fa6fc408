-- The answer is the code's, and so what Core reads.
use Rattle.asmap_codes.proofs.CoreLaws.{asn_is_core}
use Rattle.asmap_decode.proofs.decode_asn.Goals as goal

pub returns-clause-core : goal.returns-clause-core
returns-clause-core c = asn_is_core c.args.map.now c.args.at _ c.decode_row.ensures
