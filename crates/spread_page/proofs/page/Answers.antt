-- `page` is the page over a map that is checked.
use Rattle.std.proofs.Common.{[], ◌∙◌, sym, arith}
use Rattle.peer_lists.proofs.Refusals.{none_listed}
use Rattle.netgroup.specs.Group.{numbering}
use Rattle.netgroup.specs.Refusal.{check_refusal}
use Rattle.asmap_records.proofs.OutputLaws.{hands_no}
use Rattle.spread_page.specs.Page.{spread_page}
use Rattle.spread_page.specs.Promise.{Told, Unaborted}
use Rattle.spread_page.proofs.PageLaws.{list_refused, map_refused, page_made, hands_same, told_either, unaborted_either}
use Rattle.spread_page.proofs.page.Goals as goal

pub returns-in-Some-clause-hands : goal.returns-in-Some-clause-hands
unfolding spread_page
returns-in-Some-clause-hands c =
    let a = c.args in
    let n = numbering a.grouping in
    let listed = sym c.candidates_refusal.ensures ∙ c.in-Some.is in
    hands_no (spread_page n a.candidates.now) a.out.now _ (list_refused (check_refusal n) n a.candidates.now _ listed)

pub returns-in-Some-clause-told : goal.returns-in-Some-clause-told
unfolding Told
returns-in-Some-clause-told c = tt

pub returns-in-Some-clause-unaborted : goal.returns-in-Some-clause-unaborted
unfolding Unaborted
returns-in-Some-clause-unaborted c = tt

pub returns-in-Some-check_refusal-clause-hands : goal.returns-in-Some-check_refusal-clause-hands
unfolding spread_page
returns-in-Some-check_refusal-clause-hands c =
    let a = c.args in
    let n = numbering a.grouping in
    let listed = sym c.candidates_refusal.ensures ∙ c.in_default.is in
    let checked = sym c.check_refusal.ensures ∙ c.in-Some-check_refusal.is in
    hands_no (spread_page n a.candidates.now) a.out.now _ (map_refused (check_refusal n) n a.candidates.now _ listed checked)

pub returns-in-Some-check_refusal-clause-told : goal.returns-in-Some-check_refusal-clause-told
unfolding Told
returns-in-Some-check_refusal-clause-told c = tt

pub returns-in-Some-check_refusal-clause-unaborted : goal.returns-in-Some-check_refusal-clause-unaborted
unfolding Unaborted
returns-in-Some-check_refusal-clause-unaborted c = tt

pub returns-clause-hands : goal.returns-clause-hands
unfolding spread_page
returns-clause-hands c =
    let a = c.args in
    let n = numbering a.grouping in
    let listed = sym c.candidates_refusal.ensures ∙ c.in_default.is in
    let checked = sym c.check_refusal.ensures ∙ c.in_default-check_refusal.is in
    hands_same (sym (page_made (check_refusal n) n a.candidates.now listed checked)) c.make_page.ensures

pub returns-clause-told : goal.returns-clause-told
returns-clause-told c =
    let a = c.args in
    let n = numbering a.grouping in
    let listed = sym c.candidates_refusal.ensures ∙ c.in_default.is in
    told_either n a.candidates.now c.make_page.result (none_listed a.candidates.now [] listed) (λ i. omega (arith, c.type_inv.candidates i))

pub returns-clause-unaborted : goal.returns-clause-unaborted
returns-clause-unaborted c =
    let a = c.args in
    let n = numbering a.grouping in
    unaborted_either n a.candidates.now c.make_page.result (sym c.check_refusal.ensures ∙ c.in_default-check_refusal.is)
