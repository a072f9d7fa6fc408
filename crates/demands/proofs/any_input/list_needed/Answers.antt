-- By what the call promises.
use Rattle.demand_statements.proofs.ListAnswers as answers
use Rattle.demands.proofs.any_input.list_needed.Goals as goal

pub returns : goal.returns
returns c = answers.needs c.args.map.now 128 c.corbastrigo_list_bytes.ensures
