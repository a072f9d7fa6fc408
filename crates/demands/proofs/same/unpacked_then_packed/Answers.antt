-- By what the two calls promise (`not_unpacked`, `packed_again`).
use mathlib.Core.Path.{sym}
use native.Mathlib.Omega.{arith}
use lib.Seq.{length-take-le}
use Rattle.demand_statements.proofs.TripLaws.{wrote, inside, not_unpacked, packed_again}
use Rattle.demands.proofs.same.unpacked_then_packed.Goals as goal

pub returns-then-refused-ne0 : goal.returns-then-refused-ne0
returns-then-refused-ne0 c = not_unpacked c.args.map.now 128 c.corbastrigo_unpack-refused.ensures c.if-refused-ne0.true

pub slice_bounds-corbastrigo_pack-end : goal.slice_bounds-corbastrigo_pack-end
slice_bounds-corbastrigo_pack-end c = inside (wrote _ c.corbastrigo_unpack-refused.ensures c.if-refused-ne0.false)

pub slice_bounds-corbastrigo_pack-end-2 : goal.slice_bounds-corbastrigo_pack-end-2
slice_bounds-corbastrigo_pack-end-2 c = sym (length-take-le _ _ (inside (wrote _ c.corbastrigo_unpack-refused.ensures c.if-refused-ne0.false)))

pub returns : goal.returns
returns c =
    packed_again c.args.map.now 128 (λ i. omega (arith, c.type_inv.map i)) c.corbastrigo_unpack-refused.ensures c.if-refused-ne0.false c.corbastrigo_pack.ensures
