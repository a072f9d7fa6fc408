-- All bits are equal (`same_low`), or those at the front (`front_same`) and not the next (`front_differs`).
use Rattle.std.proofs.Common.{◌≡◌, ◌∙◌, sym, ap, ◌+◌, ◌-◌, ◌%◌, ◌^◌, arith}
use borrow.Author.Tests.{eqb-true}
use Rattle.asmap_program.specs.Map.{address_bit}
use Rattle.asmap_address.proofs.AddressLaws.{same_low, front_same, front_differs}
use Rattle.asmap_address.proofs.equal_front.Goals as goal

pub returns-then-same_bits : goal.returns-then-same_bits
returns-then-same_bits c =
    let a = c.args in
    let y = c.address_bits-bits in
    let e = eqb-true (y.result % 2 ^ a.n) (a.operand % 2 ^ a.n) (sym c.same_bits.ensures ∙ c.if-same_bits.true) in
    record {
      most = omega arith;
      same = λ k h l. same_low a.operand y.result a.n k e h ∙ y.ensures k h;
      differs = λ h. absurd (omega arith);
    }

pub returns : goal.returns
returns c =
    let a = c.args in
    let y = c.address_bits-bits in
    let r = c.same_front in
    record {
      most = r.ensures.0;
      same = λ k h l. sym (front_same y.result a.operand a.n r.result r.ensures.1 k h l) ∙ y.ensures k h;
      differs = λ h e.
          let z : a.at + (a.n - 1 - (a.n - 1 - r.result)) ≡ a.at + r.result = omega arith in
          front_differs y.result a.operand a.n r.result r.ensures.1 h (y.ensures (a.n - 1 - r.result) (omega arith) ∙ ap (address_bit a.address.now) z ∙ sym e);
    }
