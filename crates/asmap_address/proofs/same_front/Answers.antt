-- What differs of n bits is at most n wide: `width_most`.
use Rattle.std.proofs.Common.{◌≡◌, ℕ, ◌-◌, ◌%◌, ◌^◌, ◌≤◌, subst, arith}
use Rattle.std.proofs.Math.Nat.{mod-lt}
use Rattle.std.proofs.Math.Pow.{pow_pos}
use Rattle.std.specs.Int.Bits.{bit_xor}
use Rattle.asmap_program.specs.Map.{Width}
use Rattle.asmap_address.proofs.AddressLaws.{width_most}
use Rattle.asmap_address.proofs.same_front.Goals as goal
use Rattle.asmap_address.proofs.same_front.Goals.{After-bit_width}

-- the width of what differs
wide : (c : After-bit_width) → Width (bit_xor c.args.a c.args.b % 2 ^ c.args.n) c.bit_width.result
wide c = subst (λ (p : ℕ). Width (bit_xor c.args.a c.args.b % p) c.bit_width.result) c.power.ensures c.bit_width.ensures

most : (c : After-bit_width) → c.bit_width.result ≤ c.args.n
most c = width_most _ c.args.n _ (wide c) (mod-lt (bit_xor c.args.a c.args.b) (pow_pos c.args.n))

pub overflow_cast-result : goal.overflow_cast-result
overflow_cast-result c = record { fits = omega (arith, most (goal.at.overflow_cast-result c).After-bit_width) }

pub overflow_sub-result : goal.overflow_sub-result
overflow_sub-result c = most (goal.at.overflow_sub-result c).After-bit_width

pub returns : goal.returns
returns c =
    let s = c.args in
    let d = (goal.at.returns c).After-bit_width in
    let e : c.bit_width.result ≡ s.n - (s.n - c.bit_width.result) = omega (arith, most d) in
    (omega arith, subst (Width (bit_xor s.a s.b % 2 ^ s.n)) e (wide d))
