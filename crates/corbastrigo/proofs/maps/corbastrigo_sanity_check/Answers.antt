-- The check's verdict is handed out, and it is Core's (`core-verdict`).
use mathlib.Core.Path.{◌∙◌, ap, subst}
use Rattle.refusals.specs.Numbers.{of_map}
use Rattle.asmap_check.specs.Check.{check_of, LikeCore}
use Rattle.answers.proofs.Promised.{mapped, core-verdict}
use Rattle.answers.proofs.NeverZeroMaps.{check_handed}
use Rattle.corbastrigo.proofs.maps.corbastrigo_sanity_check.Goals as goal

pub returns : goal.returns
returns c =
    let m = c.args.map.now in
    let v = c.sanity_check.ensures in
    let e = mapped c.sanity_check.result c.map_err.result c.map_err.ensures.cases in
    let h = check_handed (e ∙ ap of_map v.value) c.hand_verdict.ensures in
    record { hands = h; core = core-verdict m (check_of m 128) (subst (LikeCore m 128) v.value v.core) h }
