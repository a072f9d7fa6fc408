-- The leading zeros tell the width: `width_leading`.
use Rattle.asmap_program.proofs.Length.{width_leading}
use Rattle.asmap_program.proofs.bit_width.Goals as goal

pub returns : goal.returns
returns c = width_leading c.args.x c.ranges.x.fits
