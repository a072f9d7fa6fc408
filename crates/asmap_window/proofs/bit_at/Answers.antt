-- The bit of a map is a bit of its byte: `get_or-map_bits`.
use Rattle.std.proofs.Common.{sym}
use Rattle.asmap_codes.proofs.BitLaws.{get_or-map_bits}
use Rattle.asmap_window.proofs.bit_at.Goals as goal

pub returns : goal.returns
returns c = sym (get_or-map_bits c.args.map.now c.args.at c.requires)
