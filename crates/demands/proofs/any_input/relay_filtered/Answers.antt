-- By what the call promises.
use Rattle.demand_statements.proofs.FilterAnswers.{relays}
use Rattle.demands.proofs.any_input.relay_filtered.Goals as goal

pub returns : goal.returns
returns c = let a = c.args in relays a.id a.address.now a.port c.corbastrigo_addrv2_skip_relay.ensures
