-- All prefixes lie below the end of all addresses, for which 0 is held.
use Rattle.std.proofs.Common.{ℕ, subst}
use Rattle.prefix_runs.specs.models.Runs.{RunBelow}
use Rattle.prefix_runs.proofs.EndLaws.{end_all}
use Rattle.prefix_runs.proofs.PieceLaws.{cut_all}
use Rattle.prefix_runs.proofs.Prefixes.last_run.Goals as goal

pub run_below-requires : goal.run_below-requires
run_below-requires c = cut_all c.args.self.records.now c.args.self.rising

pub returns : goal.returns
returns c = subst (λ (e : ℕ). RunBelow c.args.self.records.now c.args.self.given e c.run_below.result) end_all c.run_below.ensures
