-- Accepted means a tree: from place 0 with w address bits, the first half of each JUMP ending exactly at its target, its instructions in
-- order those that the check reads, and after it right padding. On this law (`program`) demand 3 and Core's verdict rest. By one view
-- of a step, lifted to runs without fuel, then by induction on those.
-- Assumes nothing.
use Prim.Native.Nat.{ℕ, zero, suc, ◌-◌, ◌≤◌, ◌<◌, max}
use mathlib.Core.Bool.{Bool, true, false, not, ◌&&◌}
use mathlib.Core.Path.{◌≡◌, refl, sym, ap, subst}
use mathlib.Core.List.Memᴰ
use mathlib.Core.List.{List, [], ◌∷◌, ◌++◌, append_assoc, Memᴰ}
use mathlib.Core.Logic.{◌⊎◌, inl, inr}
use native.Mathlib.Omega.{arith}
use lib.Dec.{T, leb, ltb, leb→le}
use lib.ListN.{length}
use borrow.Author.Tests.{eqb-true, eqb-false, ltb-false, not-false}
use Rattle.asmap_program.specs.declared.Instruction.{Instruction}
use Rattle.asmap_program.specs.declared.Previous.{Previous}
use Rattle.asmap_program.specs.declared.Previous.TheVariants.{Other, Default}
use Rattle.asmap_program.specs.Map.{RETURN, JUMP, MATCH, end_of, target_of, Fetched, Whole, CutOpcode, CutOperand, Map, Laws, length_of}
use Rattle.asmap_program.specs.Tree.{Tree, return, jump, match, default, Program, JumpsInside}
use Rattle.asmap_program.specs.Check.{Open, is_default, is_short, State, Outcome, Next, Done, Refuse, guard, past, closing, step_whole, step_on, step, after, run, listed, reads, start, check, unpacked, after_match}
use Rattle.asmap_program.specs.Verdict.{Accepted, Verdict}
use Rattle.asmap_program.proofs.Verdicts.{accepted-same}
use Rattle.refusals.specs.declared.Fault.{Fault}
use Rattle.refusals.specs.declared.Fault.TheVariants as fault
use Rattle.refusals.specs.Numbers.{fault_number}

module _ (m : Map) where
  -- What is left to read in a state: a tree up to each open target, the innermost first, then one up to the padding.
  abbrev pub Forest : Previous → ℕ → ℕ → List Open → List Instruction → Type 0
  Forest b at left [] js = (end : ℕ) × Tree m b at left end js × (m.padded end ≡ true)
  Forest b at left (o ∷ opens) js =
      (is : List Instruction) × (ks : List Instruction) × (js ≡ is ++ ks) × Tree m b at left o.target is × Forest Other o.target o.saved opens ks

  -- ---- what a step does

  -- every way on from s behind i, with what the tests on the way showed
  pub data Moves (s : State) (i : Instruction) : State → Type 0 where
    closes : {o : Open} {opens : List Open}
        → s.opens ≡ o ∷ opens → i.opcode ≡ RETURN → is_default s.before ≡ false → end_of i ≡ o.target
        → Moves s i (record { at = end_of i; left = o.saved; before = Other; opens = opens; count = suc s.count; deepest = s.deepest })
    opened : i.opcode ≡ JUMP → 1 ≤ s.left → past s.opens (target_of i) ≡ false
        → Moves s i (record {
          at = end_of i;
          left = s.left - 1;
          before = Other;
          opens = record { target = target_of i; saved = s.left - 1 } ∷ s.opens;
          count = suc s.count;
          deepest = max s.deepest (suc (length s.opens));
        })
    matched : i.opcode ≡ MATCH → length_of i.operand ≤ s.left → (ltb (length_of i.operand) 8 && is_short s.before) ≡ false
        → Moves s i (record {
          at = end_of i;
          left = s.left - length_of i.operand;
          before = after_match (length_of i.operand);
          opens = s.opens;
          count = suc s.count;
          deepest = s.deepest;
        })
    defaulted : {n : ℕ} → i.opcode ≡ suc (suc (suc n)) → is_default s.before ≡ false
        → Moves s i (record { at = end_of i; left = s.left; before = Default; opens = s.opens; count = suc s.count; deepest = s.deepest })

  -- an accepting step: a RETURN with no open jump, and padding after it
  pub record Ends (s : State) (i : Instruction) (c d : ℕ) : Type 0 where
    pub fetched : m.fetch s.at ≡ Whole i
    pub code : i.opcode ≡ RETURN
    pub none : s.opens ≡ []
    pub free : is_default s.before ≡ false
    pub good : m.padded (end_of i) ≡ true
    pub counted : c ≡ suc s.count
    pub deep : d ≡ s.deepest

  -- what a step shows, by what it comes to; no refusal has the number 0 or 1
  abbrev pub View : State → Outcome → Type 0
  View s (Next i s') = (m.fetch s.at ≡ Whole i) × Moves s i s'
  View s (Done i c d) = Ends s i c d
  View s (Refuse f) = 2 ≤ fault_number f

  guarded : (s : State) (b : Bool) (f : Fault) → T (leb 2 (fault_number f)) → (o : Outcome) → (b ≡ false → View s o) → View s (guard b f o)
  unfolding guard
  guarded s true f t o v = leb→le 2 (fault_number f) t
  guarded s false f t o v = v refl

  closing_view : (s : State) (i : Instruction) → m.fetch s.at ≡ Whole i → i.opcode ≡ RETURN → is_default s.before ≡ false
      → (opens : List Open) → s.opens ≡ opens → View s (closing m s i opens)
  closing_view s i f e d [] q =
      guarded s (not (m.padded (end_of i))) fault.Padding tt (Done i (suc s.count) s.deepest)
      λ h. record { fetched = f; code = e; none = q; free = d; good = not-false _ h; counted = refl; deep = refl }
  closing_view s i f e d (o ∷ opens) q = guarded s _ fault.NotAtTarget tt _ λ h. (f, closes q e d (eqb-true _ _ (not-false _ h)))

  whole_view : (s : State) (i : Instruction) → m.fetch s.at ≡ Whole i → (k : ℕ) → i.opcode ≡ k → View s (step_whole m s i k)
  whole_view s i f zero e = guarded s _ fault.AfterDefault tt (closing m s i s.opens) λ h. closing_view s i f e h s.opens refl
  whole_view s i f (suc zero) e =
      guarded s _ fault.NoBits tt _ λ h. guarded s _ fault.TargetsCross tt _ λ k. (f, opened e (omega (arith, eqb-false s.left 0 h)) k)
  whole_view s i f (suc (suc zero)) e =
      guarded s _ fault.ShortMatches tt _ λ h. guarded s _ fault.NoBits tt _ λ k. (f, matched e (ltb-false _ _ k) h)
  whole_view s i f (suc (suc (suc n))) e = guarded s _ fault.AfterDefault tt _ λ h. (f, defaulted e h)

  on_view : (s : State) (r : Fetched) → m.fetch s.at ≡ r → View s (step_on m s r)
  on_view s (Whole i) f = whole_view s i f i.opcode refl
  on_view s CutOpcode f = omega arith
  on_view s (CutOperand op) f = guarded s _ fault.AfterDefault tt _ λ _. omega arith

  pub view : (s : State) → View s (step m s)
  unfolding step
  view s = guarded s _ fault.MapEnds tt _ λ _. guarded s _ fault.PastTarget tt _ λ _. on_view s (m.fetch s.at) refl

  -- ---- an accepted run, without fuel

  pub data Accepts : State → List Instruction → ℕ → ℕ → Type 0 where
    last : {s : State} {i : Instruction} {c d : ℕ} → Ends s i c d → Accepts s (i ∷ []) c d
    more : {s : State} {i : Instruction} {s' : State} {is : List Instruction} {c d : ℕ}
        → m.fetch s.at ≡ Whole i → Moves s i s' → Accepts s' is c d → Accepts s (i ∷ is) c d

  accepts_on : {c d : ℕ} (s : State) (k : State → Verdict) (l : State → List Instruction)
      → ((s' : State) → k s' ≡ Accepted c d → Accepts s' (l s') c d)
      → (o : Outcome) → View s o → after k o ≡ Accepted c d → Accepts s (listed l o) c d
  accepts_on s k l ih (Next i s') v h = more v.0 v.1 (ih s' h)
  accepts_on {c} {d} s k l ih (Done i c' d') v h =
      let e = accepted-same h in
      rw (← e.0, ← e.1) (last v)
  accepts_on s k l ih (Refuse n) v h = let z : ◌≡◌ {A = ℕ} 0 1 = cc in absurd (omega arith)

  pub accepts : {c d : ℕ} (f : ℕ) (s : State) → run m f s ≡ Accepted c d → Accepts s (reads m f s) c d
  unfolding run reads
  accepts zero s h = let z : ◌≡◌ {A = ℕ} 0 1 = cc in absurd (omega arith)
  accepts (suc f) s h = accepts_on s _ _ (λ s' q. accepts f s' q) (step m s) (view s) h

  -- ---- from runs to trees

  -- one instruction more before the first tree
  grow : {b b' : Previous} {at at' left left' : ℕ} {i : Instruction}
      → ((end : ℕ) (is : List Instruction) → Tree m b at left end is → Tree m b' at' left' end (i ∷ is))
      → (opens : List Open) (js : List Instruction) → Forest b at left opens js → Forest b' at' left' opens (i ∷ js)
  grow g [] js t = (t.0, g t.0 js t.1, t.2)
  grow {i} g (o ∷ opens) js t = (i ∷ t.0, t.1, ap (λ (l : List Instruction). i ∷ l) t.2, g o.target t.0 t.3, t.4)

  -- a JUMP before the tree up to its target and the one from its target
  join : (b : Previous) {at left : ℕ} {i : Instruction}
      → m.fetch at ≡ Whole i → i.opcode ≡ JUMP → 1 ≤ left
      → (opens : List Open) (js : List Instruction)
      → Forest Other (end_of i) (left - 1) (record { target = target_of i; saved = left - 1 } ∷ opens) js
      → Forest b at left opens (i ∷ js)
  join b {i} f e h [] js t = (t.4.0, rw t.2 (jump f e h t.3 t.4.1), t.4.2)
  join b {i} f e h (o ∷ opens) js t = (
    i ∷ (t.0 ++ t.4.0),
    t.4.1,
    rw (t.2, t.4.2) (ap (λ (l : List Instruction). i ∷ l) (sym (append_assoc t.0 t.4.0 t.4.1))),
    jump f e h t.3 t.4.3,
    t.4.4,
  )

module _ (m : Map) (law : Laws m) where
  -- what an accepted run has left to read
  pub forest : {s : State} {is : List Instruction} {c d : ℕ} → Accepts m s is c d → Forest m s.before s.at s.left s.opens is
  forest {s} (last {i} v) = rw v.none (end_of i, return v.fetched v.code v.free, v.good)
  forest {s} (more {i} f (closes {o} {opens} q e d h) a) = rw (q, ← h) (i ∷ [], _, refl, return f e d, forest a)
  forest {s} (more {i} f (opened e h k) a) = join m s.before f e h s.opens _ (forest a)
  forest {s} (more {i} f (matched e h w) a) = grow m (λ end is t. match f e h w t) s.opens _ (forest a)
  forest {s} (more {i} f (defaulted e h) a) = grow m (λ end is t. default f (let k = (law.stands _ _ f).known in omega arith) h t) s.opens _ (forest a)

  -- ---- the law

  -- what is accepted is a program, and its instructions are those that the check read
  pub program : {c d : ℕ} (w : ℕ) → check m w ≡ Accepted c d → Program m w (unpacked m w)
  unfolding check unpacked
  program w h =
      let t : Forest m Other 0 w [] (reads m m.bits (start w)) = forest (accepts m m.bits (start w) h) in
      record { end = t.0; tree = t.1; tail = t.2 }

  -- a tree goes forward, and stays in the map
  pub forward : {b : Previous} {at left end : ℕ} {is : List Instruction} → Tree m b at left end is → (at < end) × (end ≤ m.bits)
  forward (return f e d) = let s = law.stands _ _ f in let h = s.here in omega arith
  forward (jump {i} f e h t t') = let s = law.stands _ _ f in let a = forward t in let a' = forward t' in omega arith
  forward (match f e h w t) = let s = law.stands _ _ f in let a = forward t in omega arith
  forward (default f e h t) = let s = law.stands _ _ f in let a = forward t in omega arith

  inside_more : {i : Instruction} {is : List Instruction} → (i.opcode ≡ JUMP → target_of i < m.bits) → JumpsInside m is → JumpsInside m (i ∷ is)
  inside_more {i} {is} h g j p e = go (Memᴰ.cases_cons p)
    where
      go : (j ≡ i) ⊎ Memᴰ j is → target_of j < m.bits
      go (inl q) = subst (λ (x : Instruction). x.opcode ≡ JUMP → target_of x < m.bits) (sym q) h e
      go (inr q) = g j q e

  inside_both : {is js : List Instruction} → JumpsInside m is → JumpsInside m js → JumpsInside m (is ++ js)
  inside_both {is} {js} g h j p e = go (Memᴰ.append_cases is p)
    where
      go : Memᴰ j is ⊎ Memᴰ j js → target_of j < m.bits
      go (inl q) = g j q e
      go (inr q) = h j q e

  tree_inside : {b : Previous} {at left end : ℕ} {is : List Instruction} → Tree m b at left end is → JumpsInside m is
  tree_inside (return f e d) = inside_more (λ q. absurd (omega arith)) λ j p _. absurd (Memᴰ.not-nil p)
  tree_inside (jump f e h t t') =
      let a = forward t' in inside_more (λ _. omega arith) (inside_both (tree_inside t) (tree_inside t'))
  tree_inside (match f e h w t) = inside_more (λ q. absurd (omega arith)) (tree_inside t)
  tree_inside (default f e h t) = inside_more (λ q. absurd (omega arith)) (tree_inside t)

  -- document 01, Walk: an accepted map holds no JUMP that reaches the end, at which Core would stop
  pub accepted_jumps_inside : {c d : ℕ} (w : ℕ) → check m w ≡ Accepted c d → JumpsInside m (unpacked m w)
  accepted_jumps_inside w h = tree_inside (program w h).tree
