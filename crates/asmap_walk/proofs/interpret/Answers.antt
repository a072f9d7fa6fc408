-- At 128 bits, with all that the call promises.
use Rattle.asmap_walk.proofs.Promised.{demand3-kept, core-kept}
use Rattle.asmap_walk.proofs.interpret.Goals as goal

pub returns-clause-demand3 : goal.returns-clause-demand3
returns-clause-demand3 c = demand3-kept c.args.map.now c.args.address.now _ c.walk_over.ensures

pub returns-clause-core : goal.returns-clause-core
returns-clause-core c = core-kept c.args.map.now c.args.address.now _ c.walk_over.ensures
