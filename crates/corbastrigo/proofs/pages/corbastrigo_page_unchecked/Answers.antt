-- The page that was written, and how many bytes; what its lines tell, and how each walk behind it ended where the check accepts the map.
use Rattle.netgroup.specs.Group.{numbering}
use Rattle.spread_page.specs.Promise.{Told, Unaborted}
use Rattle.answers.proofs.Promised.{writes, of_written}
use Rattle.corbastrigo.proofs.pages.corbastrigo_page_unchecked.Goals as goal

pub returns : goal.returns
returns c =
    let p = c.page_unchecked.ensures in
    let n = numbering c.grouping_of.result in
    let bytes = c.args.candidates.now in
    let e = c.hand_bytes.ensures in
    rw (← c.grouping_of.ensures) record { writes = writes p.hands e; told = of_written (Told n bytes) c.page_unchecked.result _ p.told e; unaborted = λ k. of_written (Unaborted n bytes) c.page_unchecked.result _ (p.unaborted k) e }
