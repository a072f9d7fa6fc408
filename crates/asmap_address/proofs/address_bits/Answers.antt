-- The bits stand in two bytes: `two_bytes`.
use Rattle.asmap_address.proofs.AddressLaws.{two_bytes}
use Rattle.asmap_address.proofs.address_bits.Goals as goal

pub returns : goal.returns
returns c k h =
    let a = c.args in
    two_bytes a.address.now a.at a.n k _ _ c.requires h c.address_byte-first.ensures.0 c.address_byte-second.ensures.0 c.address_byte-second.ensures.1
