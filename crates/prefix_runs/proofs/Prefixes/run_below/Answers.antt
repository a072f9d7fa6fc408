-- The piece below what is joined ends where that starts; it has the run's number, or the run is whole.
use Rattle.std.proofs.Common.{◌≡◌, ℕ, ◌<◌, true, not, ◌&&◌, eqb, sym, subst, arith}
use Rattle.std.proofs.lemmas.Bool.Decides.{nat_tests}
use Rattle.prefix_records.specs.declared.Address.{Address}
use Rattle.prefix_records.specs.models.Cursor.{value_of}
use Rattle.prefix_runs.specs.models.Runs.{Cut}
use Rattle.prefix_runs.specs.models.Pieces.{top, Joined}
use Rattle.prefix_runs.proofs.EndLaws.{end_is}
use Rattle.prefix_runs.proofs.PieceLaws.{join-next, whole_run}
use Rattle.prefix_runs.proofs.Prefixes.run_below.Goals as goal

-- an address that is not 0 is the end for which it is held
starts : (a : Address) → true ≡ not (eqb a.high 0 && eqb a.low 0) → top (value_of a) ≡ value_of a
starts a e = end_is (value_of a) (above a e)
  where
    above : (a : Address) → true ≡ not (eqb a.high 0 && eqb a.low 0) → 0 < value_of a
    above a e = grind (arith, nat_tests)

pub piece_below-next-requires : goal.piece_below-next-requires
piece_below-next-requires c =
    let s = starts c.loop-self.run.first c.loop-self-test.ensures in
    subst (λ (x : ℕ). Cut c.args.self.records.now x c.loop-self.run.under) (sym s) (c.loop-self.invariant _ c.piece_below-run.ensures).cut

pub returns-then-next-run : goal.returns-then-next-run
returns-then-next-run c =
    let s = starts c.loop-self.run.first c.loop-self-test.ensures in
    let below = subst (λ (x : ℕ). Joined c.args.self.records.now c.args.self.given x c.piece_below-next.result) s c.piece_below-next.ensures in
    whole_run _ _ _ _ (c.loop-self.invariant _ c.piece_below-run.ensures) _ below c.if-next-run.true

pub loop-self-smaller : goal.loop-self-smaller
loop-self-smaller c =
    let s = starts c.loop-self.run.first c.loop-self-test.ensures in
    (subst (λ (x : ℕ). Joined c.args.self.records.now c.args.self.given x c.piece_below-next.result) s c.piece_below-next.ensures).some

pub loop-self-preserved : goal.loop-self-preserved
loop-self-preserved c e j =
    let s = starts c.loop-self.run.first c.loop-self-test.ensures in
    let below = subst (λ (x : ℕ). Joined c.args.self.records.now c.args.self.given x c.piece_below-next.result) s c.piece_below-next.ensures in
    join-next _ _ e _ (c.loop-self.invariant e j) _ below c.if-next-run.false
