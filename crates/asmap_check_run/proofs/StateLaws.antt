-- The open jumps as code holds them: what opening and closing one does to the list that the check speaks of.
-- Assumes nothing.
use Prim.Native.Nat.{ℕ, zero, suc, ◌-◌, ◌≤◌, ◌<◌}
use mathlib.Core.Path.{◌≡◌, refl, ap}
use mathlib.Core.List.{List, ◌∷◌}
use native.Mathlib.Omega.{arith}
use borrow.Author.Tests.{lt-ltb}
use lib.ListN.{length, get_or, set}
use lib.Seq.{get_or-set_same, get_or-set_other}
use Rattle.asmap_program.specs.Check.{past}
use Rattle.asmap_check_run.specs.models.State.{opens_of, top}
use Rattle.asmap_check_act.specs.models.Act.{past_top}

pub length_opens : (ts ss : List ℕ) (d : ℕ) → length (opens_of ts ss d) ≡ d
length_opens ts ss zero = refl
length_opens ts ss (suc d) = ap suc (length_opens ts ss d)

-- a store at or above the depth changes nothing below it
opens_above : (ts ss : List ℕ) (k a b d : ℕ) → d ≤ k → opens_of (set ts k a) (set ss k b) d ≡ opens_of ts ss d
opens_above ts ss k a b zero h = refl
opens_above ts ss k a b (suc d) h =
    rw (get_or-set_other ts k d a 0 (omega arith), get_or-set_other ss k d b 0 (omega arith), opens_above ts ss k a b d (omega arith))

-- open: a store at the depth
pub opens-push : (ts ss : List ℕ) (a b d : ℕ) → d < length ts → d < length ss
    → opens_of (set ts d a) (set ss d b) (suc d) ≡ record { target = a; saved = b } ∷ opens_of ts ss d
opens-push ts ss a b d h k =
    rw (get_or-set_same ts d a 0 h, get_or-set_same ss d b 0 k, opens_above ts ss d a b d (omega arith))

-- close: the depth less one, the arrays as they were
pub opens_pop : (ts ss : List ℕ) (d : ℕ) → 1 ≤ d
    → opens_of ts ss d ≡ record { target = get_or ts (d - 1) 0; saved = get_or ss (d - 1) 0 } ∷ opens_of ts ss (d - 1)
opens_pop ts ss zero h = absurd (omega arith)
opens_pop ts ss (suc d) h = let e : suc d - 1 ≡ d = omega arith in rw e

-- the test of the innermost target, as code makes it
pub past_top_lem : (ts ss : List ℕ) (d p : ℕ) → past (opens_of ts ss d) p ≡ past_top d (top ts d) p
past_top_lem ts ss zero p = refl
past_top_lem ts ss (suc d) p = let e : suc d - 1 ≡ d = omega arith in rw (e, lt-ltb 0 (suc d) (omega arith))
