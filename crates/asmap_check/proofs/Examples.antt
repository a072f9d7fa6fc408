-- The examples of document 01's list hold, by computation.
-- Assumes nothing.
use Prim.Native.Nat.{ℕ}
use mathlib.Core.Path.{◌≡◌, refl}
use mathlib.Core.List.{List, map}
use Rattle.asmap_program.specs.Map.{length_in, length_of}
use Rattle.asmap_program.specs.Check.{guard, step, run, check, stops, stop_of}
use Rattle.asmap_codes.specs.Instruction.{fetch_at, padded_from, map_of}
use Rattle.asmap_check.specs.Check.{check_of}
use Rattle.asmap_check.specs.Examples.{examples}
use Rattle.asmap_program.specs.Verdict.{Verdict}

pub examples_hold
    : map {B = Verdict × ℕ} (λ (e : List ℕ × (Verdict × ℕ)). (check_of e.0 128, stop_of (map_of e.0) 128)) examples
    ≡ map {B = Verdict × ℕ} (λ (e : List ℕ × (Verdict × ℕ)). e.1) examples
unfolding check run stop_of stops step guard map_of fetch_at padded_from length_of length_in
examples_hold = refl
