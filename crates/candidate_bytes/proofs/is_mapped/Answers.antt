-- `is_mapped` is `mapped`, by the two numbers that it reads.
use Rattle.std.proofs.Common.{◌∙◌, sym, arith, ne_eqb}
use Rattle.candidate_bytes.proofs.Valids.{other_half, zero_half_lem}
use Rattle.candidate_bytes.proofs.is_mapped.Goals as goal

pub returns-then-half_at-eq0 : goal.returns-then-half_at-eq0
returns-then-half_at-eq0 c = sym (zero_half_lem c.args.candidate.now (omega arith) c.half_at.result c.half_at.ensures (omega arith) c.word_at.result c.word_at.ensures)

pub returns-else-half_at-eq0 : goal.returns-else-half_at-eq0
returns-else-half_at-eq0 c =
    let n = c.half_at.result in
    ne_eqb n 0 c.if-half_at-eq0.false ∙ sym (other_half c.args.candidate.now (omega arith) n c.half_at.ensures c.if-half_at-eq0.false)
