-- What follows where a list is not refused.
-- Assumes nothing.
use mathlib.Core.Path.{◌≡◌, refl}
use mathlib.Core.List.{List}
use mathlib.Core.Bool.{Bool, true, false, not}
use Prim.Native.Nat.{ℕ, ◌/◌, ◌%◌, ◌≤◌}
use borrow.Author.Tests.{ltb-false}
use lib.Dec.{eqb, ltb}
use lib.ListN.{length}
use Rattle.peer_lists.specs.Refusal.{refuse_if, or_else, list_refusal}
use Rattle.refusals.specs.declared.Refusal.{Refusal}
use Rattle.std.specs.Prelude.{Option, Some, None}
use Rattle.refusals.specs.declared.Refusal.TheVariants as refusal

pub number_not_none : {A : Type 0} (n : Refusal) → Some n ≡ None → A
number_not_none n e = absurd cc

-- no refusal of two is none of either
pub none_first : (a b : Option Refusal) → or_else a b ≡ None → a ≡ None
none_first None b h = refl
none_first (Some n) b h = h

pub none-later : (a b : Option Refusal) → or_else a b ≡ None → b ≡ None
none-later None b h = h
none-later (Some n) b h = number_not_none n h

-- a test that did not refuse was false
pub none-false : (t : Bool) (n : Refusal) → refuse_if t n ≡ None → t ≡ false
none-false true n h = number_not_none n h
none-false false n h = refl

pub none_more : (a b : ℕ) (n : Refusal) → refuse_if (ltb a b) n ≡ None → b ≤ a
none_more a b n h = ltb-false a b (none-false (ltb a b) n h)

-- a list that is not refused has no more candidates than a list may have
pub none_listed : (bytes occupied : List ℕ) → list_refusal bytes occupied ≡ None → length bytes / 20 ≤ 4096
none_listed bytes occupied h =
    none_more 4096 (length bytes / 20) refusal.TooMany (none_first _ _ (none-later (refuse_if (not (eqb (length bytes % 20) 0)) refusal.Candidate) _ h))

-- nor more occupied groups
pub none_occupied : (bytes occupied : List ℕ) → list_refusal bytes occupied ≡ None → length occupied ≤ 4096
none_occupied bytes occupied h =
    let later = none-later (refuse_if (not (eqb (length bytes % 20) 0)) refusal.Candidate) _ h in
    none_more 4096 (length occupied) refusal.TooMany (none_first _ _ (none-later (refuse_if (ltb 4096 (length bytes / 20)) refusal.TooMany) _ later))
