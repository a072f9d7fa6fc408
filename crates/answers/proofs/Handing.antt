-- How a call comes to what it promises (`Hands`): from what the crate below answers, and that no refusal is 0.
-- Assumes nothing.
use Prim.Native.Nat.{ℕ, ◌<◌}
use mathlib.Core.Path.{◌≡◌, ◌∙◌, ap}
use mathlib.Core.List.{List, ◌∷◌}
use native.Mathlib.Omega.{arith}
use mathlib.Core.Bool.{Bool, true, false, cond}
use Rattle.asmap_program.specs.Widths.{is_width, at_width}
use Rattle.answer_outcome.specs.Outcome.{Outcome, Done, No, handed, IsDone, Hands}
use Rattle.refusals.specs.declared.Fault.{Fault}
use Rattle.refusals.specs.declared.Fault.TheVariants as fault
use Rattle.refusals.specs.declared.Refusal.{Refusal}
use Rattle.refusals.specs.declared.Refusal.TheVariants as refusal
use Rattle.refusals.specs.Numbers.{fault_number, refusal_number}

-- ---- no refusal has the number 0

pub fault_some : (f : Fault) → 0 < fault_number f
fault_some fault.MapTooLong = omega arith
fault_some fault.MapEnds = omega arith
fault_some fault.PastTarget = omega arith
fault_some fault.CutOpcode = omega arith
fault_some fault.AfterDefault = omega arith
fault_some fault.Padding = omega arith
fault_some fault.NotAtTarget = omega arith
fault_some fault.NoBits = omega arith
fault_some fault.TargetsCross = omega arith
fault_some fault.ShortMatches = omega arith
fault_some fault.CutOperand = omega arith

pub refusal_some : (e : Refusal) → 0 < refusal_number e
refusal_some (refusal.Map f) = fault_some f
refusal_some (refusal.NewMap f) = omega arith
refusal_some refusal.AddressLength = omega arith
refusal_some refusal.TooMany = omega arith
refusal_some refusal.Candidate = omega arith
refusal_some refusal.OutputTooShort = omega arith
refusal_some refusal.OutOfRange = omega arith
refusal_some refusal.Record = omega arith
refusal_some refusal.RelayLength = omega arith
refusal_some refusal.Width = omega arith
refusal_some refusal.Load = omega arith
refusal_some refusal.Prefix = omega arith
refusal_some refusal.Number = omega arith

-- ---- a call's promise

-- a refusal has a number from 1 on
unfoldable pub Counted : Outcome → Type 0
Counted (Done numbers) = Unit {0}
Counted (No n) = 0 < n

-- what is shown of the number of each refusal
unfoldable pub Refuses : (ℕ → Type 0) → Outcome → Type 0
Refuses P (Done numbers) = Unit {0}
Refuses P (No n) = P n

-- a call at a width: 18 is no 0
pub counted_at : {A : Type 0} (out : A → Outcome) (refused : Refusal → A) (x : A) (w : ℕ) → Counted (out (refused refusal.Width)) → Counted (out x)
    → Counted (out (at_width w refused x))
unfolding at_width
counted_at out refused x w h k = go (is_width w)
  where
    go : (b : Bool) → Counted (out (cond b x (refused refusal.Width)))
    go true = k
    go false = h

zero : (o : Outcome) (r : ℕ) (lent left : List ℕ) → Counted o → r ∷ left ≡ handed o lent → r ≡ 0 → IsDone o
unfolding Counted handed IsDone
zero (Done numbers) r lent left h e z = tt
zero (No n) r lent left h e z = let k : r ≡ n = cc in omega arith

-- y: what the definition says; x: what the crate below answered; out: the numbers that it hands out
pub hands : {A : Type 0} (out : A → Outcome) {x y : A} {r : ℕ} {lent left : List ℕ}
    → x ≡ y → ((a : A) → Counted (out a)) → r ∷ left ≡ handed (out x) lent → Hands (out y) r lent left
hands out {x} {y} {r} {lent} {left} q h e =
    let k : r ∷ left ≡ handed (out y) lent = e ∙ ap (λ a. handed (out a) lent) q in
    record { numbers = k; zero_is_done = zero (out y) r lent left (h y) k }
