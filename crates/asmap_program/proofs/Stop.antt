-- The place at which the check stops (`stop_of`) is that of a state which the check comes to and in which it gives its verdict (`stops_at`). It
-- lies inside the map, or at its end (`stop_inside`).
-- Assumes nothing.
use Prim.Native.Nat.{ℕ, zero, suc, ◌+◌, ◌≤◌}
use mathlib.Core.Path.{◌≡◌, refl, subst}
use native.Mathlib.Omega.{arith}
use Rattle.asmap_program.specs.Map.{Map, Laws}
use Rattle.asmap_program.specs.Check.{State, Outcome, Next, Done, Refuse, step, after, run, start, check, stopping, stops, stop_of, Reached, begins, goes, StopsAt}
use Rattle.asmap_program.proofs.Tree.{View, view}
use Rattle.asmap_program.proofs.Loop.{moved, ended}

module _ (m : Map) (law : Laws m) (w : ℕ) where
  -- by what the step from a reached state comes to; on: what is found from the state behind it
  by-step : (s : State) (f : ℕ) → Reached m w s → (o : Outcome) → step m s ≡ o
      → ((s' : State) → Reached m w s' → s.at + 1 ≤ s'.at → StopsAt m w (run m f s') (stops m f s'))
      → StopsAt m w (after (run m f) o) (stopping s.at (stops m f) o)
  by-step s f r (Next i s') e on =
      let v = subst (View m s) e (view m s) in
      let a = law.stands _ _ v.0 in
      let k = moved m v.1 in
      on s' (goes r e) (omega arith)
  by-step s f r (Done i c d) e on = record { state = s; reached = r; here = refl; gives = rw e refl }
  by-step s f r (Refuse n) e on = record { state = s; reached = r; here = refl; gives = rw e refl }

  found : (f : ℕ) (s : State) → Reached m w s → m.bits ≤ s.at + f → StopsAt m w (run m f s) (stops m f s)
  unfolding run stops
  found zero s r h = record { state = s; reached = r; here = refl; gives = rw (ended m s (omega arith)) refl }
  found (suc f) s r h = by-step s f r (step m s) refl (λ s' q k. found f s' q (omega arith))

  pub stops_at : StopsAt m w (check m w) (stop_of m w)
  unfolding check stop_of
  stops_at = found m.bits (start w) begins (omega arith)

  -- every place that the check comes to is inside the map, or its end
  reached_inside : {s : State} → Reached m w s → s.at ≤ m.bits
  reached_inside begins = omega arith
  reached_inside (goes {s} {s'} {i} r e) =
      let v = subst (View m s) e (view m s) in
      let a = law.stands _ _ v.0 in
      let k = moved m v.1 in
      omega arith

  pub stop_inside : stop_of m w ≤ m.bits
  stop_inside = let x = stops_at in omega (arith, reached_inside x.reached, x.here)
