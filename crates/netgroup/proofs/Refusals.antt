-- What follows where the map of a call is not refused.
-- Assumes nothing.
use mathlib.Core.Path.{◌≡◌, refl}
use mathlib.Core.List.{List}
use Prim.Native.Nat.{ℕ, ◌≤◌}
use borrow.Author.Tests.{le-ltb}
use lib.ListN.{length}
use Rattle.asmap_check.specs.Check.{check_of}
use Rattle.asmap_check.proofs.Limit.{accepted_within}
use Rattle.peer_lists.proofs.Refusals.{number_not_none, none_more}
use Rattle.netgroup.specs.Group.{Numbering, by_map, by_prefixes, by_old_prefixes}
use Rattle.netgroup.specs.Refusal.{verdict_refusal, limit_refusal, check_refusal}
use Rattle.asmap_program.specs.Verdict.{Accepted, Verdict}
use Rattle.std.specs.Prelude.{Err, None, Ok}
use Rattle.refusals.specs.declared.Fault.TheVariants as fault
use Rattle.refusals.specs.declared.Refusal.TheVariants as refusal

-- a map that is not refused for its length
pub none-limit : (m : List ℕ) → limit_refusal (by_map m) ≡ None → length m ≤ 16777216
none-limit m h = none_more 16777216 (length m) (refusal.Map fault.MapTooLong) h

-- a map that the check does not refuse is accepted
pub record Passes (m : List ℕ) : Type 0 where
  pub count : ℕ
  pub depth : ℕ
  pub accepted : check_of m 128 ≡ Accepted count depth

pub none_check : (m : List ℕ) → check_refusal (by_map m) ≡ None → Passes m
none_check m h = go (check_of m 128) refl h
  where
    go : (v : Verdict) → check_of m 128 ≡ v → verdict_refusal v ≡ None → Passes m
    go (Ok got) e q = record { count = got.count; depth = got.depth; accepted = e }
    go (Err n) e q = number_not_none (refusal.Map n) q

-- so what the check passes is not refused as it is
pub check_limit : (n : Numbering) → check_refusal n ≡ None → limit_refusal n ≡ None
check_limit (by_map m) h =
    let p = none_check m h in
    rw (le-ltb 16777216 (length m) (accepted_within m 128 p.count p.depth p.accepted).0)
check_limit by_prefixes h = refl
check_limit by_old_prefixes h = refl
