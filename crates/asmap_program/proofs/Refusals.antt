-- Which numbers a step of the check refuses with, and what can be read at its place where the number is that of a cut code: the check hands on what
-- the decoder reports there (`stops_at_a_cut`).
-- Assumes nothing.
use Prim.Native.Nat.{ℕ, zero, suc, ◌≤◌}
use mathlib.Core.Bool.{Bool, true, false, not, ◌&&◌}
use mathlib.Core.Path.{◌≡◌, refl, sym, subst, ap}
use mathlib.Core.List.{List, [], ◌∷◌}
use mathlib.Core.Logic.{◌≢◌}
use native.Mathlib.Omega.{arith}
use lib.Dec.{T, leb, eqb, leb→le}
use borrow.Author.Tests.{eq-eqb}
use Rattle.asmap_program.specs.declared.Instruction.{Instruction}
use Rattle.asmap_program.specs.Map.{Opcode, Operand, cut_reason, Fetched, Whole, CutOpcode, CutOperand, Map, Laws}
use Rattle.asmap_program.specs.Check.{Open, State, Outcome, Next, Done, Refuse, guard, closing, step_whole, step_on, step, check, stop_of, Gives, StopsAt}
use Rattle.asmap_program.proofs.Stop.{stops_at}
use Rattle.std.specs.Prelude.{Err}
use Rattle.refusals.specs.declared.Fault.{Fault}
use Rattle.refusals.specs.declared.Fault.TheVariants as fault
use Rattle.refusals.specs.Numbers.{fault_number}

-- ---- the faults of the tests: from 2 to 10 by their numbers, and none of them a cut

abbrev pub of_test : Fault → Bool
of_test f = leb 2 (fault_number f) && (leb (fault_number f) 10 && not (eqb (fault_number f) (fault_number (cut_reason Opcode))))

both : (a b : Bool) → T (a && b) → T a × T b
both true b t = (tt, t)
both false b t = absurd t

pub test-number : (f : Fault) → T (of_test f) → (2 ≤ fault_number f) × ((fault_number f ≤ 10) × (f ≢ cut_reason Opcode))
test-number f t =
    let n : ℕ = fault_number f in
    let x = both (leb 2 n) _ t in
    let y = both (leb n 10) _ x.1 in
    (leb→le 2 n x.0, (leb→le n 10 y.0, λ e. absurd (subst (λ (b : Bool). T (not b)) (eq-eqb n (fault_number (cut_reason Opcode)) (ap fault_number e)) y.1)))

-- ---- a step from s. P: what is shown of the fault that it finds

module _ (m : Map) (s : State) (P : Fault → Type 0) where
  abbrev pub Refuses : Outcome → Type 0
  Refuses (Next i s') = Unit {0}
  Refuses (Done i c d) = Unit {0}
  Refuses (Refuse n) = P n

  module _ (test : (f : Fault) → T (of_test f) → P f) where
    guarded : (b : Bool) (n : Fault) (o : Outcome) → T (of_test n) → Refuses o → Refuses (guard b n o)
    unfolding guard
    guarded true n o t k = test n t
    guarded false n o t k = k

    closed : (i : Instruction) (opens : List Open) → Refuses (closing m s i opens)
    closed i [] = guarded _ fault.Padding _ tt tt
    closed i (o ∷ opens) = guarded _ fault.NotAtTarget _ tt tt

    whole : (i : Instruction) (op : ℕ) → Refuses (step_whole m s i op)
    whole i zero = guarded _ fault.AfterDefault _ tt (closed i s.opens)
    whole i (suc zero) = guarded _ fault.NoBits _ tt (guarded _ fault.TargetsCross _ tt tt)
    whole i (suc (suc zero)) = guarded _ fault.ShortMatches _ tt (guarded _ fault.NoBits _ tt tt)
    whole i (suc (suc (suc n))) = guarded _ fault.AfterDefault _ tt tt

    module _ (opcode : m.fetch s.at ≡ CutOpcode → P (cut_reason Opcode)) (operand : (op : ℕ) → m.fetch s.at ≡ CutOperand op → P (cut_reason Operand)) where
      read : (f : Fetched) → m.fetch s.at ≡ f → Refuses (step_on m s f)
      read (Whole i) e = whole i i.opcode
      read CutOpcode e = opcode e
      read (CutOperand op) e = guarded _ fault.AfterDefault _ tt (operand op e)

      pub step_refuses : Refuses (step m s)
      unfolding step
      step_refuses = guarded _ fault.MapEnds _ tt (guarded _ fault.PastTarget _ tt (read (m.fetch s.at) refl))

-- ---- the check

-- what can be read at the place p, by the fault n that is found there
pub record Shows (m : Map) (p : ℕ) (n : Fault) : Type 0 where
  pub opcode : n ≡ cut_reason Opcode → m.fetch p ≡ CutOpcode
  pub operand : n ≡ cut_reason Operand → (op : ℕ) × (m.fetch p ≡ CutOperand op)

step_shows : (m : Map) (s : State) → Refuses m s (Shows m s.at) (step m s)
step_shows m s =
    step_refuses m s (Shows m s.at)
    (λ n t. let k = test-number n t in record { opcode = λ e. absurd (k.1.1 e); operand = λ e. let z : fault_number n ≡ 19 = ap fault_number e in absurd (omega (arith, k.1.0, z)) })
    (λ e. record { opcode = λ _. e; operand = λ z. let q : ◌≡◌ {A = ℕ} 4 19 = ap fault_number z in absurd (omega arith) })
    (λ op e. record { opcode = λ z. let q : ◌≡◌ {A = ℕ} 19 4 = ap fault_number z in absurd (omega arith); operand = λ _. (op, e) })

-- where the check refuses a map for a cut code, that code is cut at the place where it stops: an opcode, or an operand behind its opcode
pub stops_at_a_cut : (m : Map) → Laws m → (w : ℕ) (n : Fault) → check m w ≡ Err n → Shows m (stop_of m w) n
stops_at_a_cut m law w n e = subst (λ (p : ℕ). Shows m p n) x.here (by (step m x.state) x.gives (step_shows m x.state))
  where
    x : StopsAt m w (check m w) (stop_of m w)
    x = stops_at m law w

    by : (o : Outcome) → Gives (check m w) o → Refuses m x.state (Shows m x.state.at) o → Shows m x.state.at n
    by (Next i s) g h = absurd g
    by (Done i c d) g h = let q = sym e in let z : ◌≡◌ {A = ℕ} 0 1 = cc in absurd (omega arith)
    by (Refuse k) g h = let q = sym e in let z : k ≡ n = cc in subst (Shows m x.state.at) z h
