-- The bytes of the number, however it is written, are copied into their part (sets_part).
use Rattle.std.proofs.Common.{◌∙◌, ap, arith, refl}
use Rattle.byte_numbers.specs.Numbers.{big8}
use Rattle.byte_numbers.proofs.Buffers.{sets_part}
use Rattle.byte_numbers.proofs.put_big.Goals as goal

pub returns : goal.returns
returns c = sets_part c.args.out.now c.args.at 8 _ c.copy_from_slice.new.self (c.copy_from_slice.ensures.after ∙ c.to_be_bytes.ensures ∙ ap big8 (omega arith)) refl c.requires
