-- The law of the six swaps: `reverse_64`.
use Rattle.std.proofs.Common.{◌∙◌, ap}
use Rattle.asmap_codes.specs.models.Reverse.{swap}
use Rattle.asmap_codes.proofs.ReverseLaws.{reverse_64}
use Rattle.asmap_codes.proofs.reversed.Goals as goal

pub returns : goal.returns
returns c =
    c.swapped.ensures
    ∙ ap (swap 32 4294967295) (c.swapped-sixteens.ensures
    ∙ ap (swap 16 281470681808895) (c.swapped-eights.ensures
    ∙ ap (swap 8 71777214294589695) (c.swapped-fours.ensures
    ∙ ap (swap 4 1085102592571150095) (c.swapped-twos.ensures
    ∙ ap (swap 2 3689348814741910323) c.swapped-ones.ensures))))
    ∙ reverse_64 c.args.x c.ranges.x.fits
