-- The refusals of a pick: which comes first, and what follows where there is none.
-- Assumes nothing.
use mathlib.Core.Path.{◌≡◌}
use mathlib.Core.List.{List}
use Prim.Native.Nat.{ℕ, ◌/◌, min}
use lib.Dec.{ltb}
use lib.ListN.{length}
use Rattle.peer_lists.specs.Refusal.{refuse_if, list_refusal}
use Rattle.peer_lists.proofs.Refusals.{none_first, none-later, none_more, none_listed, none_occupied}
use Rattle.netgroup.specs.Group.{Numbering}
use Rattle.netgroup.specs.Refusal.{limit_refusal}
use Rattle.netgroup_pick.specs.PickRefusal.{room_refusal, pick_refusal}
use Rattle.pick_passes.specs.models.Ready.{Ready}
use Rattle.refusals.specs.declared.Refusal.{Refusal}
use Rattle.std.specs.Prelude.{Option, Some, None}
use Rattle.refusals.specs.declared.Refusal.TheVariants as refusal

-- the first refusal that there is
module _ (of_map : Option Refusal) (bytes occupied : List ℕ) (max : ℕ) (picks groups : List ℕ) where
  pub first_list : (k : Refusal) → list_refusal bytes occupied ≡ Some k → pick_refusal of_map bytes occupied max picks groups ≡ Some k
  first_list k e = rw e

  pub then_map : (k : Refusal) → list_refusal bytes occupied ≡ None → of_map ≡ Some k → pick_refusal of_map bytes occupied max picks groups ≡ Some k
  then_map k e h = rw (e, h)

  pub then_room : list_refusal bytes occupied ≡ None → of_map ≡ None
      → pick_refusal of_map bytes occupied max picks groups ≡ room_refusal (length bytes / 20) max picks groups
  then_room e h = rw (e, h)

pub none_ready : (n : Numbering) (bytes occupied : List ℕ) (max : ℕ) (picks groups : List ℕ)
    → pick_refusal (limit_refusal n) bytes occupied max picks groups ≡ None → Ready n bytes occupied max picks groups
none_ready n bytes occupied max picks groups h =
    let later = none-later (list_refusal bytes occupied) _ h in
    let room = none-later (limit_refusal n) _ later in
    let need = min max (length bytes / 20) in
    let p = refuse_if (ltb (length picks) need) refusal.OutputTooShort in
    record {
      few = none_listed bytes occupied (none_first (list_refusal bytes occupied) _ h);
      few_occupied = none_occupied bytes occupied (none_first (list_refusal bytes occupied) _ h);
      fit = none_first (limit_refusal n) _ later;
      room_picks = none_more (length picks) need refusal.OutputTooShort (none_first p _ room);
      room_groups = none_more (length groups) need refusal.OutputTooShort (none-later p _ room);
    }
