-- The law of the listing is cited for what is promised beside.
use Rattle.asmap_list.proofs.CallLaws.{covered}
use Rattle.asmap_list.proofs.list.Goals as goal

pub returns-clause-covers : goal.returns-clause-covers
returns-clause-covers c = covered c.args.map.now 128
