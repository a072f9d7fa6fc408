-- By what the two calls promise (`not-unpacked_at`, `packed_again_at`).
use mathlib.Core.Path.{sym}
use native.Mathlib.Omega.{arith}
use lib.Seq.{length-take-le}
use Rattle.demand_statements.proofs.TripLaws.{wrote, inside}
use Rattle.demand_statements.proofs.WidthAnswers.{not-unpacked_at, packed_again_at}
use Rattle.demands.proofs.widths.unpacked_then_packed.Goals as goal

pub returns-then-refused-ne0 : goal.returns-then-refused-ne0
returns-then-refused-ne0 c =
    let a = c.args in not-unpacked_at a.map.now a.width c.corbastrigo_unpack_bits-refused.ensures c.if-refused-ne0.true

pub slice_bounds-corbastrigo_pack-end : goal.slice_bounds-corbastrigo_pack-end
slice_bounds-corbastrigo_pack-end c = inside (wrote _ c.corbastrigo_unpack_bits-refused.ensures c.if-refused-ne0.false)

pub slice_bounds-corbastrigo_pack-end-2 : goal.slice_bounds-corbastrigo_pack-end-2
slice_bounds-corbastrigo_pack-end-2 c = sym (length-take-le _ _ (inside (wrote _ c.corbastrigo_unpack_bits-refused.ensures c.if-refused-ne0.false)))

pub returns : goal.returns
returns c =
    let a = c.args in
    packed_again_at a.map.now a.width (λ i. omega (arith, c.type_inv.map i)) c.corbastrigo_unpack_bits-refused.ensures c.if-refused-ne0.false c.corbastrigo_pack.ensures
