-- By what the two calls promise (`unpacked_again`).
use mathlib.Core.Path.{sym}
use native.Mathlib.Omega.{arith}
use lib.Seq.{length-take-le}
use Rattle.demand_statements.proofs.TripLaws.{wrote, inside, unpacked_again}
use Rattle.demands.proofs.same.packed_then_unpacked.Goals as goal

pub returns-then-refused-ne0 : goal.returns-then-refused-ne0
returns-then-refused-ne0 c = λ z. absurd (c.if-refused-ne0.true z)

pub slice_bounds-corbastrigo_unpack-end : goal.slice_bounds-corbastrigo_unpack-end
slice_bounds-corbastrigo_unpack-end c = inside (wrote _ c.corbastrigo_pack-refused.ensures c.if-refused-ne0.false)

pub slice_bounds-corbastrigo_unpack-end-2 : goal.slice_bounds-corbastrigo_unpack-end-2
slice_bounds-corbastrigo_unpack-end-2 c = sym (length-take-le _ _ (inside (wrote _ c.corbastrigo_pack-refused.ensures c.if-refused-ne0.false)))

pub returns : goal.returns
returns c =
    unpacked_again c.args.records.now 128 (λ i. omega (arith, c.type_inv.records i)) c.corbastrigo_pack-refused.ensures c.if-refused-ne0.false c.corbastrigo_unpack.ensures
