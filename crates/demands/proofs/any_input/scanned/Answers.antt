-- By what the call promises.
use Rattle.demand_statements.proofs.ScanAnswers.{scans}
use Rattle.demands.proofs.any_input.scanned.Goals as goal

pub returns : goal.returns
returns c =
    let a = c.args in
    scans a.group a.occupied.now c.corbastrigo_scan_occupied.ensures
