-- By what the calls promise.
use Rattle.demand_statements.proofs.PageAnswers.{not_paged, loaded_page_concluded}
use Rattle.demands.proofs.pages.page_by_loaded_map.Goals as goal

pub returns-then-refused-ne0 : goal.returns-then-refused-ne0
returns-then-refused-ne0 c =
    let a = c.args in
    let told = not_paged a.map.now a.candidates.now a.out.now c.corbastrigo_sanity_check-refused.ensures.hands c.if-refused-ne0.true in
    record { printed_by_map = told.0; refused = told.1 }

pub returns : goal.returns
returns c =
    let a = c.args in
    let p = c.corbastrigo_page_unchecked.ensures in
    let told = loaded_page_concluded a.map.now a.candidates.now a.out.now _ c.corbastrigo_sanity_check-refused.ensures.hands c.if-refused-ne0.false p.writes p.told p.unaborted in
    record { printed_by_map = told.0; refused = told.1 }
