-- `same_bytes` is `same`: the bytes before `i` decide, since those from `i` on are equal.
use Rattle.std.proofs.Common.{◌∙◌, sym, ◌-◌, arith, ne_eqb, eq-eqb}
use Rattle.candidate_bytes.proofs.Sames.{same_on, same_differs, same_unequal}
use Rattle.candidate_bytes.proofs.SameNumbers.{same_words}
use Rattle.candidate_bytes.proofs.same_bytes.Goals as goal

pub returns-then-a-b : goal.returns-then-a-b
returns-then-a-b c = sym (same_unequal c.args.a.now c.args.b.now (omega arith))

pub returns-then-word_at : goal.returns-then-word_at
returns-then-word_at c =
    let a = c.args.a.now in
    let b = c.args.b.now in
    let i = c.loop-i.i in
    let w = c.word_at in
    let v = c.word_at-in-loop-i in
    let d = same_words 8 a b (i - 8) w.result v.result (omega arith) (omega arith) w.ensures v.ensures in
    sym (c.loop-i.invariant.2 ∙ same_differs a b i (i - 8) 8 (omega arith) (omega arith) (omega arith) (d ∙ ne_eqb w.result v.result c.if-word_at.true))

pub loop-i-preserved : goal.loop-i-preserved
loop-i-preserved c =
    let a = c.args.a.now in
    let b = c.args.b.now in
    let i = c.loop-i.i in
    let w = c.word_at in
    let v = c.word_at-in-loop-i in
    let d = same_words 8 a b (i - 8) w.result v.result (omega arith) (omega arith) w.ensures v.ensures in (
      omega arith,
      c.loop-i.invariant.1,
      c.loop-i.invariant.2 ∙ same_on a b i (i - 8) 8 (omega arith) (omega arith) (omega arith) (d ∙ eq-eqb w.result v.result (omega arith)),
    )

pub returns-then-half_at : goal.returns-then-half_at
returns-then-half_at c =
    let a = c.args.a.now in
    let b = c.args.b.now in
    let i = c.loop-i.i in
    let w = c.half_at in
    let v = c.half_at-then-i-ge4 in
    let d = same_words 4 a b (i - 4) w.result v.result (omega arith) (omega arith) w.ensures v.ensures in
    sym (c.loop-i.invariant.2 ∙ same_differs a b i (i - 4) 4 (omega arith) (omega arith) (omega arith) (d ∙ ne_eqb w.result v.result c.if-half_at.true))

pub returns-then-i-ge4 : goal.returns-then-i-ge4
returns-then-i-ge4 c =
    let a = c.args.a.now in
    let b = c.args.b.now in
    let i = c.loop-i.i in
    let w = c.half_at in
    let v = c.half_at-then-i-ge4 in
    let d = same_words 4 a b (i - 4) w.result v.result (omega arith) (omega arith) w.ensures v.ensures in
    c.same_front.ensures
    ∙ sym (c.loop-i.invariant.2 ∙ same_on a b i (i - 4) 4 (omega arith) (omega arith) (omega arith) (d ∙ eq-eqb w.result v.result (omega arith)))
