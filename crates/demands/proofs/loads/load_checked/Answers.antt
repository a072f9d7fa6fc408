-- By what the two calls promise: the bytes written are accepted (`load_checked_lem`).
use mathlib.Core.Path.{sym}
use lib.Seq.{length-take-le}
use Rattle.demand_statements.proofs.TripLaws.{wrote, inside}
use Rattle.demand_statements.proofs.LoadAnswers.{loads, loaded, load_checked_lem, not_loaded}
use Rattle.demands.proofs.loads.load_checked.Goals as goal

pub returns-then-refused-ne0 : goal.returns-then-refused-ne0
returns-then-refused-ne0 c =
    let a = c.args in
    not_loaded a.seed a.pairs a.out.now (loads a.seed a.pairs a.out.now _ c.corbastrigo_load-refused.ensures.writes) c.if-refused-ne0.true

pub slice_bounds-corbastrigo_sanity_check-end : goal.slice_bounds-corbastrigo_sanity_check-end
slice_bounds-corbastrigo_sanity_check-end c = inside (wrote _ c.corbastrigo_load-refused.ensures.writes c.if-refused-ne0.false)

pub slice_bounds-corbastrigo_sanity_check-end-2 : goal.slice_bounds-corbastrigo_sanity_check-end-2
slice_bounds-corbastrigo_sanity_check-end-2 c = sym (length-take-le _ _ (inside (wrote _ c.corbastrigo_load-refused.ensures.writes c.if-refused-ne0.false)))

pub returns : goal.returns
returns c =
    let a = c.args in
    let p = c.corbastrigo_load-refused.ensures in
    let z = c.if-refused-ne0.false in
    load_checked_lem a.seed a.pairs a.out.now _ (loads a.seed a.pairs a.out.now _ p.writes) z (loaded a.seed a.pairs a.out.now _ p.writes p.passes z) c.corbastrigo_sanity_check.ensures.hands
