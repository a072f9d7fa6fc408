-- The prefix, then the bits of one size.
use Rattle.std.proofs.Common.{◌∙◌, ℕ, ◌+◌, leb, sym, ap, arith}
use Rattle.asmap_codes.specs.Code.{pick}
use Rattle.asmap_codes.proofs.BitLaws.{size_of_pow, number-low_lt}
use Rattle.asmap_row_decoder.proofs.decode_each.Goals as goal
use Rattle.asmap_codes.specs.Reading.{Cut, Value}

pub first_bits-requires : goal.first_bits-requires
first_bits-requires c = size_of_pow _ (omega (arith, c.read_prefix-stop.ensures.small))

pub overflow_add-value : goal.overflow_add-value
overflow_add-value c =
    let p = c.read_prefix-stop in
    omega (arith, p.ensures.small, c.first_bits.ensures, number-low_lt p.result.size p.result.left)

pub returns : goal.returns
returns c =
    let a = c.args in
    let p = c.read_prefix-stop in
    let at = a.at + p.result.read + p.result.size in
    c.coded.ensures
    ∙ ap (λ (x : ℕ). pick (leb at a.end) (Value (p.result.value + x) at) Cut) c.first_bits.ensures
    ∙ sym (p.ensures.rest a.at a.end)
