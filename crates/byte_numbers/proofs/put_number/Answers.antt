-- The bytes of the number, however it is written, are copied into their part (sets_part).
use Rattle.std.proofs.Common.{◌∙◌, ap, arith, refl}
use Rattle.byte_numbers.specs.Numbers.{bytes4}
use Rattle.byte_numbers.proofs.Buffers.{sets_part}
use Rattle.byte_numbers.proofs.put_number.Goals as goal

pub returns : goal.returns
returns c = sets_part c.args.out.now c.args.at 4 _ c.copy_from_slice.new.self (c.copy_from_slice.ensures.after ∙ c.to_le_bytes.ensures ∙ ap bytes4 (omega arith)) refl c.requires
