-- The check's verdict at a width is handed out, and it is Core's (`core-verdict_at`).
use mathlib.Core.Path.{subst}
use Rattle.asmap_check.specs.Check.{check_at, LikeCoreAt}
use Rattle.answers.proofs.Promised.{core-verdict_at}
use Rattle.answers.proofs.NeverZeroMaps.{check_handed}
use Rattle.corbastrigo.proofs.widths.corbastrigo_sanity_check_bits.Goals as goal

pub returns : goal.returns
returns c =
    let a = c.args in
    let m = a.map.now in
    let v = c.sanity_check_bits.ensures in
    let h = check_handed v.value c.hand_verdict.ensures in
    record { hands = h; core = core-verdict_at m a.width (check_at m a.width) (subst (LikeCoreAt m a.width) v.value v.core) h }
