-- What the writer answered is handed out.
use Rattle.answers.proofs.NeverZeroCodes.{bits_handed}
use Rattle.corbastrigo.proofs.codes.corbastrigo_encode_asn.Goals as goal

pub returns : goal.returns
returns c = bits_handed c.encode_asn.ensures c.hand_bits.ensures
