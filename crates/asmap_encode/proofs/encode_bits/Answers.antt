-- What is computed of the parts is the code's number, and its bits and the word's fit 64.
use Rattle.std.proofs.Common.{◌∙◌, ap, ℕ, ◌+◌, ◌*◌, ◌%◌, ◌^◌}
use Rattle.asmap_encode.proofs.EncodeBits.{computed, above, word_fits}
use Rattle.asmap_encode.proofs.encode_bits.Goals as goal

pub overflow_add-result : goal.overflow_add-result
overflow_add-result c =
    let a = c.args in
    let p = c.requires in
    let e = computed a.prefix a.parts p.2 c.reversed_bits-mantissa.result c.reversed_bits-mantissa.ensures in
    record { fits = rw (e, above a.prefix a.parts p.2 a.before.len p.1) (word_fits a.prefix a.parts p.2 a.before.len p.1 a.before.bits p.0) }

pub returns : goal.returns
returns c =
    let a = c.args in
    let p = c.requires in
    let e = computed a.prefix a.parts p.2 c.reversed_bits-mantissa.result c.reversed_bits-mantissa.ensures in
    ap (λ (i : ℕ). record { bits = i; len = a.before.len + a.prefix + a.parts.size })
    (ap (λ (i : ℕ). a.before.bits + i * 2 ^ a.before.len % 2 ^ 64) e
    ∙ ap (λ (i : ℕ). a.before.bits + i) (above a.prefix a.parts p.2 a.before.len p.1))
