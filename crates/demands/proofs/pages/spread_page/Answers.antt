-- By what the call promises.
use Rattle.demand_statements.proofs.PageAnswers.{page_concluded}
use Rattle.demands.proofs.pages.spread_page.Goals as goal

pub returns : goal.returns
returns c =
    let a = c.args in
    let p = c.corbastrigo_page.ensures in
    let told = page_concluded a.map.now a.candidates.now a.out.now _ a.has_map p.writes p.told p.unaborted in
    record { paged = told.0; refused = told.1 }
