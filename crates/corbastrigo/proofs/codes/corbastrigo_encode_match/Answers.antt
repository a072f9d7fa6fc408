-- What the writer answered is handed out.
use Rattle.answers.proofs.NeverZeroCodes.{bits_handed}
use Rattle.corbastrigo.proofs.codes.corbastrigo_encode_match.Goals as goal

pub returns : goal.returns
returns c = bits_handed c.encode_match.ensures c.hand_bits.ensures
