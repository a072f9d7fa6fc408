-- Document 01's examples of check and walk hold, all together. By computation.
-- Assumes nothing.
use Prim.Native.Nat.{ℕ}
use mathlib.Core.Path.{◌≡◌, refl}
use mathlib.Core.List.{List, map}
use Rattle.asmap_program.specs.Map.{length_in, length_of}
use Rattle.asmap_program.specs.Check.{stop_of}
use Rattle.asmap_program.specs.Walk.{compared, enough, walk_from, walk}
use Rattle.asmap_codes.specs.Instruction.{fetch_at, map_of}
use Rattle.asmap_check.specs.Check.{check_of}
use Rattle.asmap_check.specs.Examples.{examples}
use Rattle.asmap_check.proofs.Examples.{examples_hold}
use Rattle.asmap_walk_bits.specs.Walk.{walk_of}
use Rattle.walk_examples.specs.Walks.{pairs, walks, computed, expected}
use Rattle.asmap_program.specs.Verdict.{Verdict}

all-walks : map computed walks ≡ map expected walks
unfolding walk_of walk walk_from compared enough map_of fetch_at length_of length_in pairs
all-walks = refl

pub together : (map {B = Verdict × ℕ} (λ (e : List ℕ × (Verdict × ℕ)). (check_of e.0 128, stop_of (map_of e.0) 128)) examples ≡ map {B = Verdict × ℕ} (λ (e : List ℕ × (Verdict × ℕ)). e.1) examples)
    × (map computed walks ≡ map expected walks)
together = (examples_hold, all-walks)
