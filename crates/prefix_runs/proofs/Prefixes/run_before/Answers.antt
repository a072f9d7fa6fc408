-- Where the run starts at the address, the one below it is looked for; one that starts below the address is still the one that ends there.
use Rattle.std.proofs.Common.{ℕ, sym, subst, eqb-true, ◌∙◌, arith}
use Rattle.prefix_records.specs.models.Cursor.{value_of}
use Rattle.prefix_records.proofs.AddressLaws.{same_address}
use Rattle.prefix_runs.specs.models.Runs.{Cut, RunBelow}
use Rattle.prefix_runs.proofs.EndLaws.{end_is}
use Rattle.prefix_runs.proofs.Prefixes.run_before.Goals as goal

pub run_below-requires : goal.run_below-requires
run_below-requires c =
    let v = value_of c.args.first in
    let same = sym (same_address c.args.run.first c.args.first (omega arith) (omega arith)) ∙ sym c.eq.ensures ∙ c.if-eq.true in
    let e = eqb-true (value_of c.args.run.first) v same in
    subst (λ (x : ℕ). Cut c.args.self.records.now x c.args.run.under) (e ∙ sym (end_is v c.requires.0)) c.requires.2.cut

pub returns-then-eq : goal.returns-then-eq
returns-then-eq c =
    subst (λ (e : ℕ). RunBelow c.args.self.records.now c.args.self.given e c.run_below.result) (end_is (value_of c.args.first) c.requires.0) c.run_below.ensures
