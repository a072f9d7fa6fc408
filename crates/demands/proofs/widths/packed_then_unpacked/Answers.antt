-- By what the two calls promise (`unpacked_again_at`).
use mathlib.Core.Path.{sym}
use native.Mathlib.Omega.{arith}
use lib.Seq.{length-take-le}
use Rattle.demand_statements.proofs.TripLaws.{wrote, inside}
use Rattle.demand_statements.proofs.WidthAnswers.{unpacked_again_at}
use Rattle.demands.proofs.widths.packed_then_unpacked.Goals as goal

pub returns-then-refused-ne0 : goal.returns-then-refused-ne0
returns-then-refused-ne0 c = λ z. absurd (c.if-refused-ne0.true z)

pub slice_bounds-corbastrigo_unpack_bits-end : goal.slice_bounds-corbastrigo_unpack_bits-end
slice_bounds-corbastrigo_unpack_bits-end c = inside (wrote _ c.corbastrigo_pack-refused.ensures c.if-refused-ne0.false)

pub slice_bounds-corbastrigo_unpack_bits-end-2 : goal.slice_bounds-corbastrigo_unpack_bits-end-2
slice_bounds-corbastrigo_unpack_bits-end-2 c = sym (length-take-le _ _ (inside (wrote _ c.corbastrigo_pack-refused.ensures c.if-refused-ne0.false)))

pub returns : goal.returns
returns c =
    let a = c.args in
    unpacked_again_at a.records.now a.width (λ i. omega (arith, c.type_inv.records i)) c.corbastrigo_pack-refused.ensures c.if-refused-ne0.false c.corbastrigo_unpack_bits.ensures
