-- The bit width less one is the length, at most 31.
use Rattle.std.proofs.Common.{arith}
use Rattle.asmap_program.proofs.Length.{length-below}
use Rattle.asmap_program.proofs.match_length.Goals as goal

pub overflow_cast-result : goal.overflow_cast-result
overflow_cast-result c = omega (arith, length-below c.args.operand 31 c.ranges.operand.fits, c.bit_width.ensures.length c.requires)
