-- `is_candidate` is `valid`, by the tests that led to each return and what the first words say.
use Rattle.std.proofs.Common.{sym, arith}
use Rattle.candidate_bytes.proofs.Valids.{four-valid, other-valid}
use Rattle.candidate_bytes.proofs.is_candidate.Goals as goal

pub returns-then-word_at-eq4 : goal.returns-then-word_at-eq4
returns-then-word_at-eq4 c =
    let v = c.word_at-then-word_at-eq4 in
    sym (four-valid c.args.candidate.now (omega arith) c.word_at.result c.word_at.ensures c.if-word_at-eq4.true v.result v.ensures)

pub returns-then-candidate-eq0 : goal.returns-then-candidate-eq0
returns-then-candidate-eq0 c = sym (other-valid c.args.candidate.now (omega arith) c.word_at.result c.word_at.ensures c.if-word_at-eq4.false (omega arith))
