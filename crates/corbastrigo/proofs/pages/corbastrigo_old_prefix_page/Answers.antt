-- The page that was written, and how many bytes; what its lines tell.
use Rattle.netgroup.specs.Group.{by_old_prefixes}
use Rattle.spread_page.specs.Promise.{Told}
use Rattle.answers.proofs.Promised.{writes, of_written}
use Rattle.corbastrigo.proofs.pages.corbastrigo_old_prefix_page.Goals as goal

pub returns : goal.returns
returns c =
    let p = c.old_prefix_page.ensures in
    let e = c.hand_bytes.ensures in
    record { writes = writes p.hands e; told = of_written (Told by_old_prefixes c.args.candidates.now) c.old_prefix_page.result _ p.told e }
