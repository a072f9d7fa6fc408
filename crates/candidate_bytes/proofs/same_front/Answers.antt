-- `same_front` is `same` of the first bytes: those before `i` decide, since those from `i` on are equal.
use Rattle.std.proofs.Common.{◌∙◌, sym, ◌-◌, arith, get_or, ne_eqb, eq-eqb}
use Rattle.candidate_bytes.proofs.Sames.{same_on, same_differs, same_byte}
use Rattle.candidate_bytes.proofs.same_front.Goals as goal

pub returns-then-a-i : goal.returns-then-a-i
returns-then-a-i c =
    let a = c.args.a.now in
    let b = c.args.b.now in
    let i = c.loop-i.i in
    let j = i - 1 in
    let d = same_byte a b j (omega arith) (omega arith) ∙ ne_eqb (get_or a j 0) (get_or b j 0) (omega arith) in
    sym (c.loop-i.invariant.2 ∙ same_differs a b i j 1 (omega arith) (omega arith) (omega arith) d)

pub loop-i-preserved : goal.loop-i-preserved
loop-i-preserved c =
    let a = c.args.a.now in
    let b = c.args.b.now in
    let i = c.loop-i.i in
    let j = i - 1 in
    let d = same_byte a b j (omega arith) (omega arith) ∙ eq-eqb (get_or a j 0) (get_or b j 0) (omega arith) in
    (omega arith, omega arith, c.loop-i.invariant.2 ∙ same_on a b i j 1 (omega arith) (omega arith) (omega arith) d)
