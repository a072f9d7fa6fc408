-- Which numbers the check refuses with: a step that refuses does so with a `Reason`, and a map over the limit is refused with 1. P: what is shown of
-- the number.
-- Assumes nothing.
use Prim.Native.Nat.{ℕ, zero, suc, ◌≤◌, ◌<◌}
use mathlib.Core.Bool.{Bool, true, false}
use mathlib.Core.Path.{refl}
use mathlib.Core.Logic.{inl, inr}
use mathlib.Core.List.{List}
use native.Mathlib.Omega.{arith}
use lib.Dec.{ltb}
use lib.ListN.{length}
use Rattle.asmap_program.specs.Map.{limit, Map}
use Rattle.asmap_program.specs.Check.{State, Outcome, Next, Done, Refuse, step, after, run, start, check}
use Rattle.asmap_program.proofs.Refusals.{test-number, Refuses, step_refuses}
use Rattle.asmap_codes.specs.Instruction.{map_of}
use Rattle.asmap_check.specs.Check.{unless_long, check_of, Reason}
use Rattle.asmap_program.specs.Verdict.{Verdict}
use Rattle.refusals.specs.Numbers.{fault_number}
use Rattle.std.specs.Prelude.{Err, Ok}

-- of the number of a verdict that refuses
abbrev pub Judged : (ℕ → Type 0) → Verdict → Type 0
Judged P (Ok got) = Unit {0}
Judged P (Err f) = P (fault_number f)

-- none of them is 0, and a byte has room for each with 100 more
pub reason-some : (n : ℕ) → Reason n → 0 < n
reason-some n (inl h) = omega arith
reason-some n (inr e) = omega arith

pub reason_small : (n : ℕ) → Reason n → n ≤ 19
reason_small n (inl h) = omega arith
reason_small n (inr e) = omega arith

module _ (P : ℕ → Type 0) (reason : (n : ℕ) → Reason n → P n) where
  stepped : (m : Map) (s : State) → Refuses m s (λ f. P (fault_number f)) (step m s)
  stepped m s =
      step_refuses m s (λ f. P (fault_number f))
      (λ f t. let k = test-number f t in reason (fault_number f) (inl (k.0, k.1.0)))
      (λ e. reason 4 (inl (omega arith, omega arith)))
      (λ op e. reason 19 (inr refl))

  judged_after : (m : Map) (s : State) (k : State → Verdict) → ((s : State) → Judged P (k s)) → (o : Outcome) → Refuses m s (λ f. P (fault_number f)) o → Judged P (after k o)
  judged_after m s k h (Next i s') v = h s'
  judged_after m s k h (Done i c d) v = tt
  judged_after m s k h (Refuse n) v = v

  judged-run : (m : Map) (f : ℕ) (s : State) → Judged P (run m f s)
  unfolding run
  judged-run m zero s = reason 2 (inl (omega arith, omega arith))
  judged-run m (suc f) s = judged_after m s (run m f) (λ s'. judged-run m f s') (step m s) (stepped m s)

  -- a map within the limit
  pub check-judged : (m : Map) (w : ℕ) → Judged P (check m w)
  unfolding check
  check-judged m w = judged-run m m.bits (start w)

  judged_long : (long : Bool) (v : Verdict) → P 1 → Judged P v → Judged P (unless_long long v)
  judged_long true v one h = one
  judged_long false v one h = h

  -- any map: 1, or one of these
  pub map-judged : (m : List ℕ) (w : ℕ) → P 1 → Judged P (check_of m w)
  map-judged m w one = judged_long (ltb limit (length m)) (check (map_of m) w) one (check-judged (map_of m) w)
