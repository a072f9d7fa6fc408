-- The value is the number that the bits passed write.
use Rattle.std.proofs.Common.{◌≡◌, ◌∙◌, ℕ, ◌/◌, refl, sym, ap, arith}
use Rattle.asmap_codes.proofs.BitLaws.{halved, number-low, number-low_lt, pow_below}
use native.Mathlib.Nat.{div-one}
use Rattle.asmap_row_decoder.proofs.first_bits.Goals as goal

pub loop-k-init : goal.loop-k-init
loop-k-init c = (sym (div-one c.args.w), refl)

pub overflow_mul-value : goal.overflow_mul-value
overflow_mul-value c = omega (arith, pow_below c.loop-k._k (omega arith) (number-low_lt c.loop-k._k c.args.w), c.loop-k.invariant.1)

pub overflow_add-value : goal.overflow_add-value
overflow_add-value c = omega (arith, pow_below c.loop-k._k (omega arith) (number-low_lt c.loop-k._k c.args.w), c.loop-k.invariant.1)

pub loop-k-preserved : goal.loop-k-preserved
loop-k-preserved c =
    let l = c.loop-k in
    (ap (λ (x : ℕ). x / 2) l.invariant.0 ∙ halved c.args.w l._k, omega (arith, number-low l._k c.args.w, l.invariant.0, l.invariant.1))

pub returns : goal.returns
returns c =
    let e : c.loop-k._k ≡ c.args.size = omega arith in
    rw (← e) c.loop-k.invariant.1
