-- The walk behind a group: what the call of the walk hands back, and how it ends where the check accepts the map. The second
-- rests on demand 3 of the walk (asmap_walk, `kept`).
-- Assumes nothing.
use mathlib.Core.Path.{◌≡◌}
use mathlib.Core.List.{List}
use Prim.Native.Nat.{ℕ, ◌≤◌}
use borrow.Author.Tests.{eq-eqb, le-ltb}
use lib.ListN.{length}
use Rattle.candidate_bytes.specs.Candidate.{address}
use Rattle.asmap_walk_bits.specs.Walk.{walk_of, summary}
use Rattle.asmap_walk.specs.Interpret.{interpret_of}
use Rattle.asmap_walk.proofs.Promised.{kept}
use Rattle.netgroup.specs.Group.{Numbering, by_map, by_prefixes, by_old_prefixes}
use Rattle.netgroup.specs.Refusal.{check_refusal}
use Rattle.netgroup.specs.Ended.{Finished, Ended}
use Rattle.netgroup.proofs.Refusals.{Passes, none_check}
use Rattle.std.specs.Prelude.{Ok, None}

-- an address of 16 bytes and a map within the limit are not refused
pub walk_ends : (m a : List ℕ) → length a ≡ 16 → length m ≤ 16777216 → interpret_of m a ≡ Ok (summary (walk_of m a 128))
walk_ends m a h k = rw (eq-eqb (length a) 16 h, le-ltb 16777216 (length m) k)

-- over a map that the check accepts
finished : (m c : List ℕ) → Passes m → Finished m c
finished m c p = let k = kept m (address c) 128 p.count p.depth p.accepted in record { ended = k.ended; zero = k.zero }

pub ended : (n : Numbering) (c : List ℕ) → check_refusal n ≡ None → Ended n c
ended (by_map m) c h = finished m c (none_check m h)
ended by_prefixes c h = tt
ended by_old_prefixes c h = tt
