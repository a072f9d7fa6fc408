-- By what the three calls promise (`agreed`).
use Rattle.demand_statements.proofs.MapAnswers.{over_128}
use Rattle.demand_statements.proofs.WalkLaws.{ends_128}
use Rattle.demand_statements.proofs.CompareAnswers.{agreed}
use Rattle.demands.proofs.comparisons.walks_agree.Goals as goal

pub returns : goal.returns
returns c =
    let a = c.args in
    let l = c.corbastrigo_compare_bytes-refused.ensures in
    let o = c.corbastrigo_interpret-walked.ensures in
    let n = c.corbastrigo_interpret.ensures in
    agreed a.old_map.now a.new_map.now a.address.now 128 a.first.now _ l.finds l.compares c.if-refused-ne0.false (over_128 a.old_map.now a.address.now o.hands) (ends_128 a.old_map.now a.address.now o.demand3) c.if-walked-ne0.false (over_128 a.new_map.now a.address.now n.hands) (ends_128 a.new_map.now a.address.now n.demand3)
