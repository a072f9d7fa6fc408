-- By what the call promises.
use Rattle.demand_statements.proofs.PageAnswers.{old_page_concluded}
use Rattle.demands.proofs.pages.page_by_old_prefixes.Goals as goal

pub returns : goal.returns
returns c =
    let a = c.args in
    let p = c.corbastrigo_old_prefix_page.ensures in
    let told = old_page_concluded a.candidates.now a.out.now _ p.writes p.told in
    record { printed = told.0; refused = told.1 }
