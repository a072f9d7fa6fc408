-- A map that the check accepts over w address bits it accepts over more, with the same count, depth and list: with more bits left, and saved, each step
-- that goes on goes on to the same place, and only the refusal for want of bits can fall away.
-- Assumes nothing.
use Prim.Native.Nat.{ℕ, zero, suc, ◌+◌, ◌-◌, ◌≤◌}
use mathlib.Core.Bool.{Bool, true, false, not, ◌&&◌}
use mathlib.Core.Path.{◌≡◌, refl, ap, ◌∙◌}
use mathlib.Core.List.{List, [], ◌∷◌}
use native.Mathlib.Omega.{arith}
use lib.Dec.{leb, ltb, eqb}
use lib.ListN.{length}
use borrow.Author.Tests.{eqb-false, ne_eqb, ltb-false, le-ltb}
use Rattle.asmap_program.specs.declared.Instruction.{Instruction}
use Rattle.asmap_program.specs.Map.{end_of, target_of, Fetched, Whole, CutOpcode, CutOperand, Map, length_of}
use Rattle.asmap_program.specs.Check.{Open, is_default, is_short, State, Outcome, Next, Done, Refuse, guard, past, closing, step_whole, step_on, step, after, run, listed, reads, start, check, unpacked}
use Rattle.asmap_program.specs.Verdict.{Accepted, Verdict}
use Rattle.refusals.specs.declared.Fault.{Fault}
use Rattle.refusals.specs.declared.Fault.TheVariants as fault

-- k address bits more, left and saved
more : ℕ → List Open → List Open
more k [] = []
more k (o ∷ opens) = record { target = o.target; saved = o.saved + k } ∷ more k opens

abbrev widened : ℕ → State → State
widened k s = record { at = s.at; left = s.left + k; before = s.before; opens = more k s.opens; count = s.count; deepest = s.deepest }

-- what comes of a step with k bits more: the same, where it is no refusal
abbrev Same : ℕ → Outcome → Outcome → Type 0
Same k (Next i s) o = o ≡ Next i (widened k s)
Same k (Done i c d) o = o ≡ Done i c d
Same k (Refuse n) o = Unit {0}

same_past : (k : ℕ) (opens : List Open) (p : ℕ) → past (more k opens) p ≡ past opens p
unfolding more
same_past k [] p = refl
same_past k (o ∷ opens) p = refl

same_length : (k : ℕ) (opens : List Open) → length (more k opens) ≡ length opens
unfolding more
same_length k [] = refl
same_length k (o ∷ opens) = ap suc (same_length k opens)

-- a test that does not refuse does not with more bits either
tested : (k : ℕ) (b b' : Bool) (n : Fault) (o o' : Outcome) → (b ≡ false → b' ≡ false) → (b ≡ false → Same k o o') → Same k (guard b n o) (guard b' n o')
unfolding guard
tested k true b' n o o' h g = tt
tested k false b' n o o' h g = rw (h refl) (g refl)

-- a cut code is refused
refused : (k : ℕ) (b : Bool) (n r : Fault) (o' : Outcome) → Same k (guard b n (Refuse r)) o'
unfolding guard
refused k true n r o' = tt
refused k false n r o' = tt

module _ (m : Map) (k : ℕ) where
  closing_same : (s : State) (i : Instruction) (opens : List Open) → Same k (closing m s i opens) (closing m (widened k s) i (more k opens))
  unfolding more
  closing_same s i [] = tested k (not (m.padded (end_of i))) (not (m.padded (end_of i))) fault.Padding _ _ (λ e. e) (λ e. refl)
  closing_same s i (o ∷ opens) = tested k (not (eqb (end_of i) o.target)) (not (eqb (end_of i) o.target)) fault.NotAtTarget _ _ (λ e. e) (λ e. refl)

  whole_same : (s : State) (i : Instruction) (c : ℕ) → Same k (step_whole m s i c) (step_whole m (widened k s) i c)
  unfolding more
  whole_same s i zero = tested k (is_default s.before) (is_default s.before) fault.AfterDefault _ _ (λ e. e) (λ e. closing_same s i s.opens)
  whole_same s i (suc zero) =
      tested k (eqb s.left 0) (eqb (s.left + k) 0) fault.NoBits _ _
      (λ e. let n = eqb-false s.left 0 e in ne_eqb (s.left + k) 0 (λ z. n (omega arith)))
      (λ e. tested k (past s.opens (target_of i)) (past (more k s.opens) (target_of i)) fault.TargetsCross _ _ (λ h. same_past k s.opens (target_of i) ∙ h)
      (λ h.
      let n = eqb-false s.left 0 e in
      let l : s.left + k - 1 ≡ s.left - 1 + k = omega (arith, n) in
      rw (l, same_length k s.opens)))
  whole_same s i (suc (suc zero)) =
      let b = ltb (length_of i.operand) 8 && is_short s.before in
      tested k b b fault.ShortMatches _ _ (λ e. e)
      (λ e. tested k (ltb s.left (length_of i.operand)) (ltb (s.left + k) (length_of i.operand)) fault.NoBits _ _
      (λ h. let l = ltb-false s.left (length_of i.operand) h in le-ltb (s.left + k) (length_of i.operand) (omega arith))
      (λ h.
      let l = ltb-false s.left (length_of i.operand) h in
      let z : s.left + k - length_of i.operand ≡ s.left - length_of i.operand + k = omega arith in
      rw z))
  whole_same s i (suc (suc (suc n))) = tested k (is_default s.before) (is_default s.before) fault.AfterDefault _ _ (λ e. e) (λ e. refl)

  on_same : (s : State) (r : Fetched) → Same k (step_on m s r) (step_on m (widened k s) r)
  on_same s (Whole i) = whole_same s i i.opcode
  on_same s CutOpcode = tt
  on_same s (CutOperand op) = refused k _ fault.AfterDefault _ _

  step_same : (s : State) → Same k (step m s) (step m (widened k s))
  unfolding step
  step_same s =
      tested k (leb m.bits s.at) (leb m.bits s.at) fault.MapEnds _ _ (λ e. e)
      (λ e. tested k (past s.opens s.at) (past (more k s.opens) s.at) fault.PastTarget _ _ (λ h. same_past k s.opens s.at ∙ h) (λ h. on_same s (m.fetch s.at)))

  -- the answer and the list after a step
  after_same : {c d : ℕ} (f : State → Verdict) (l : State → List Instruction)
      → ((s : State) → f s ≡ Accepted c d → (f (widened k s) ≡ Accepted c d) × (l (widened k s) ≡ l s))
      → (o o' : Outcome) → Same k o o' → after f o ≡ Accepted c d → (after f o' ≡ Accepted c d) × (listed l o' ≡ listed l o)
  after_same f l ih (Next i s) o' e h = let r = ih s h in rw e (r.0, ap (λ (is : List Instruction). i ∷ is) r.1)
  after_same f l ih (Done i c' d') o' e h = rw e (h, refl)
  after_same f l ih (Refuse n) o' e h = let z : ◌≡◌ {A = ℕ} 0 1 = cc in absurd (omega arith)

  run_same : {c d : ℕ} (f : ℕ) (s : State) → run m f s ≡ Accepted c d → (run m f (widened k s) ≡ Accepted c d) × (reads m f (widened k s) ≡ reads m f s)
  unfolding run reads
  run_same zero s h = let z : ◌≡◌ {A = ℕ} 0 1 = cc in absurd (omega arith)
  run_same (suc f) s h = after_same _ _ (λ t q. run_same f t q) (step m s) (step m (widened k s)) (step_same s) h

-- accepted over w bits is accepted over more, and lists the same instructions
pub accepted_wider : (m : Map) (w v c d : ℕ) → w ≤ v → check m w ≡ Accepted c d → (check m v ≡ Accepted c d) × (unpacked m v ≡ unpacked m w)
unfolding check unpacked more
accepted_wider m w v c d h e =
    let z : v ≡ w + (v - w) = omega arith in
    rw z (run_same m (v - w) m.bits (start w) e)
