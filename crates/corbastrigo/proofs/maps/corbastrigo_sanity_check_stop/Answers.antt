-- Where the check stops is handed out.
use mathlib.Core.Path.{◌∙◌, ap}
use Rattle.refusals.specs.Numbers.{of_map}
use Rattle.answers.proofs.Promised.{mapped}
use Rattle.answers.proofs.NeverZeroMaps.{stop_handed}
use Rattle.corbastrigo.proofs.maps.corbastrigo_sanity_check_stop.Goals as goal

pub returns : goal.returns
returns c =
    let e = mapped c.sanity_check_stop.result c.map_err.result c.map_err.ensures.cases in
    stop_handed (e ∙ ap of_map c.sanity_check_stop.ensures) c.hand_stop.ensures
