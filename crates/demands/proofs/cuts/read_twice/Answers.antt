-- By what the two calls promise (`which_is-cut`).
use Rattle.demand_statements.proofs.CutAnswers.{which_is-cut}
use Rattle.demands.proofs.cuts.read_twice.Goals as goal

pub returns : goal.returns
returns c =
    let a = c.args in
    which_is-cut a.map.now a.at c.corbastrigo_decode_type.ensures.hands c.corbastrigo_decode_instruction.ensures
