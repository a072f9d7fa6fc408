-- The bit width of x + 2 ^ first tells the size (sized).
use Rattle.std.proofs.Common.{◌≡◌, ◌+◌, ◌^◌, ◌<◌, ℕ, arith, subst}
use Rattle.asmap_program.specs.Map.{Width}
use Rattle.asmap_code_parts.proofs.PartsLaws.{Sized, sized}
use Rattle.asmap_code_parts.proofs.parts_grown.Goals as goal

-- what the bit width says, where p was found as the power
sized_by : (s x p r : ℕ) → x + 2 ^ s < 2 ^ 32 → p ≡ 2 ^ s → Width (x + p) r → Sized s x r
sized_by s x p r h e w = sized s x r h (subst (λ (i : ℕ). Width (x + i) r) e w)

pub overflow_cast-size : goal.overflow_cast-size
overflow_cast-size c = let w = sized_by c.args.first c.args.x c.power.result c.bit_width.result c.requires.1 c.power.ensures c.bit_width.ensures in omega (arith, w.fits)

pub overflow_sub-result : goal.overflow_sub-result
overflow_sub-result c = let w = sized_by c.args.first c.args.x c.power.result c.bit_width.result c.requires.1 c.power.ensures c.bit_width.ensures in w.from

pub power-requires-2 : goal.power-requires-2
power-requires-2 c = let w = sized_by c.args.first c.args.x c.power.result c.bit_width.result c.requires.1 c.power.ensures c.bit_width.ensures in w.fits

pub returns : goal.returns
returns c =
    let w = sized_by c.args.first c.args.x c.power.result c.bit_width.result c.requires.1 c.power.ensures c.bit_width.ensures in
    record {
      above = w.above;
      below = w.below;
      passed = omega (arith, w.from);
      rest = omega (arith, c.power.ensures, c.power-2.ensures);
    }
