-- By what the three calls promise (`agreed_at`).
use Rattle.demand_statements.proofs.WidthAnswers.{agreed_at}
use Rattle.demands.proofs.widths.walks_agree.Goals as goal

pub returns : goal.returns
returns c =
    let a = c.args in
    let l = c.corbastrigo_compare_bytes_bits-refused.ensures in
    let o = c.corbastrigo_interpret_bits-walked.ensures in
    let n = c.corbastrigo_interpret_bits.ensures in
    agreed_at a.old_map.now a.new_map.now a.address.now a.width a.first.now _ l.finds l.compares c.if-refused-ne0.false o.hands o.demand3 c.if-walked-ne0.false n.hands n.demand3
