-- The number that was drawn, and that it is not 0.
use mathlib.Core.Path.{◌∙◌}
use Rattle.load_draws.specs.Draw.{drawn_after}
use Rattle.answers.proofs.NeverZeroLoads.{draw_handed, number_drawn_lem}
use Rattle.corbastrigo.proofs.loads.corbastrigo_next_draw.Goals as goal

pub returns : goal.returns
returns c =
    let s = c.args.s in
    let p = c.next_draw.ensures in
    let h = draw_handed p.value c.hand_draw.ensures in
    record { hands = h; some = λ z. p.some _ (p.value ∙ number_drawn_lem (drawn_after s) h z) }
