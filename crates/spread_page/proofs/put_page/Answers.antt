-- `put_page`: 14 by the number of runs, else a line for each.
use Rattle.std.proofs.Common.{length, refl, arith}
use Rattle.asmap_records.specs.Output.{Made}
use Rattle.asmap_records.proofs.OutputLaws.{hands_short, hands_made}
use Rattle.group_shares.specs.models.Runs.{runs}
use Rattle.page_lines.specs.Line.{lines}
use Rattle.page_lines.proofs.LineLaws.{length-lines}
use Rattle.spread_page.proofs.put_page.Goals as goal

pub returns-then-out-count : goal.returns-then-out-count
returns-then-out-count c =
    let gs = c.args.groups.now in
    let bs = lines (length gs) (runs gs) in
    hands_short (Made bs) c.args.out.now bs refl (omega (arith, length-lines (length gs) (runs gs), c.count_runs-count.ensures, c.if-out-count.true))

pub returns : goal.returns
returns c =
    let gs = c.args.groups.now in
    let bs = lines (length gs) (runs gs) in
    let long = length-lines (length gs) (runs gs) in
    hands_made (Made bs) c.args.out.now bs _ _ refl
    (omega (arith, long, c.count_runs-count.ensures))
    (omega (arith, long, c.count_runs-count.ensures, c.if-out-count.false))
    c.put_lines.ensures
