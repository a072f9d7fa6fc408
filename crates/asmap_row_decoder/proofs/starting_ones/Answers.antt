-- The zeros that the other bits start with (ones_trailing), at most so many (ones_most).
use Rattle.std.proofs.Common.{◌∙◌, arith, ap, min}
use Rattle.asmap_row_decoder.proofs.GrownCode.{ones_trailing, ones_most}
use Rattle.asmap_row_decoder.proofs.starting_ones.Goals as goal

pub returns : goal.returns
returns c =
    let a = c.args in
    let e = c.trailing_ones.ensures ∙ ones_trailing 64 64 a.w (omega arith) (omega arith) in
    c.min.ensures ∙ ap (min a.most) e ∙ ones_most a.most 64 a.w c.requires
