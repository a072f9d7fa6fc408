-- `sort_page`: the lines of the sorted groups are the page (`sorted_page`).
use Rattle.std.proofs.Common.{ap, arith}
use Rattle.asmap_records.specs.Output.{Made}
use Rattle.spread_page.proofs.PageLaws.{sorted_page, hands_same}
use Rattle.spread_page.proofs.sort_page.Goals as goal

pub returns : goal.returns
returns c = hands_same (ap Made (sorted_page c.args.groups.now _ c.sort_groups.ensures (omega arith))) c.put_page.ensures
