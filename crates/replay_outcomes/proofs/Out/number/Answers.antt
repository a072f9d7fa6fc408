-- `Out::number` is `with_number`: a byte goes where it would have gone.
use Rattle.std.proofs.Common.{arith, ◌≡◌, ◌∙◌, ◌-◌, ◌+◌, ◌/◌, ◌%◌, ℕ, suc, sym, ap}
use Rattle.replay_outcomes.specs.declared.Out.{Out}
use Rattle.replay_outcomes.specs.Answers.{with_byte, with_number}
use Rattle.replay_outcomes.proofs.Out.number.Goals as goal

turn : (k size i : ℕ) (out : Out) (x : ℕ) → size - i ≡ suc k → with_number (size - i) out x ≡ with_number (size - (i + 1)) (with_byte out (x % 256)) (x / 256)
unfolding with_number
turn k size i out x e =
    let f : size - (i + 1) ≡ k = omega arith in
    rw (e, f)

none : (size i : ℕ) (out : Out) (x : ℕ) → size - i ≡ 0 → with_number (size - i) out x ≡ out
unfolding with_number
none size i out x e = rw e

pub loop-init : goal.loop-init
loop-init c = let e : c.args.size - 0 ≡ c.args.size = omega arith in ap (λ n. with_number n c.args.self c.args.x) (sym e)

pub loop-preserved : goal.loop-preserved
loop-preserved c =
    let l = c.loop in
    l.invariant ∙ turn (c.args.size - (l.counter + 1)) c.args.size l.counter l.out l.rest (omega arith) ∙ ap (λ (o : Out). with_number (c.args.size - (l.counter + 1)) o (l.rest / 256)) (sym c.byte-out.ensures)

pub returns : goal.returns
returns c =
    let l = c.loop in
    sym (l.invariant ∙ none c.args.size l.counter l.out l.rest (omega arith))
