-- The ways out of a group call.
-- Assumes nothing.
use mathlib.Core.Path.{◌≡◌}
use mathlib.Core.List.{List}
use mathlib.Core.Bool.{true, false}
use Prim.Native.Nat.{ℕ}
use Rattle.candidate_bytes.specs.Candidate.{valid}
use Rattle.netgroup.specs.Group.{Numbering, group_of}
use Rattle.netgroup.specs.Netgroup.{group_call}
use Rattle.refusals.specs.declared.Refusal.{Refusal}
use Rattle.refusals.specs.declared.Refusal.TheVariants as refusal
use Rattle.std.specs.Prelude.{Ok, Err, Option, Some, None}

module _ (of_map : Option Refusal) (n : Numbering) (c : List ℕ) where
  pub call-invalid : valid c ≡ false → Err refusal.Candidate ≡ group_call of_map n c
  call-invalid h = rw h

  pub call_refused : (k : Refusal) → valid c ≡ true → of_map ≡ Some k → Err k ≡ group_call of_map n c
  call_refused k h e = rw (h, e)

  pub call_group : valid c ≡ true → of_map ≡ None → Ok (group_of n c) ≡ group_call of_map n c
  call_group h e = rw (h, e)
