-- The converse of the tree law: every tree from place 0 with w address bits and right padding after it is accepted, with the length of its
-- list as count, and its list is the one unpacked. So nothing but trees is accepted and no tree is refused. By induction on the
-- tree, over the check's equation without fuel.
-- Assumes nothing.
use Prim.Native.Nat.{ℕ, suc, ◌+◌, ◌-◌, ◌≤◌, ◌<◌, max}
use mathlib.Core.Bool.{true, false, ◌&&◌}
use mathlib.Core.Path.{◌≡◌, refl, sym, ap, ◌∙◌}
use mathlib.Core.List.{List, [], ◌∷◌, ◌++◌, append_assoc, append-nil}
use native.Mathlib.Nat.{zero-add, suc-add}
use native.Mathlib.Omega.{arith}
use lib.Dec.{ltb}
use lib.ListN.{length, length-append}
use borrow.Author.Tests.{le-ltb, lt-leb, eq-eqb, ne_eqb}
use Rattle.asmap_program.specs.declared.Instruction.{Instruction}
use Rattle.asmap_program.specs.declared.Previous.{Previous}
use Rattle.asmap_program.specs.declared.Previous.TheVariants.{Other, Default}
use Rattle.asmap_program.specs.Map.{RETURN, JUMP, MATCH, DEFAULT, end_of, target_of, Fetched, Whole, Map, Laws, length_of}
use Rattle.asmap_program.specs.Check.{Open, is_default, is_short, after_match, State, guard, past, step_whole, step_on, step, after, check, unpacked}
use Rattle.asmap_program.specs.Tree.{Tree, return, jump, match, default, Program}
use Rattle.asmap_program.proofs.Tree.{forward}
use Rattle.asmap_program.proofs.Loop.{result, result-step, result_start, list_from, unpacked_list}
use Rattle.asmap_program.specs.Verdict.{Accepted, Verdict}

module _ (m : Map) where
  -- a tree that ends at `end` is what the open jumps wait for: its end is the innermost target, or with none the padding's start
  abbrev Awaited : ℕ → List Open → Type 0
  Awaited end [] = m.padded end ≡ true
  Awaited end (o ∷ opens) = o.target ≡ end

  -- the check's answer from the end of such a tree on, with n instructions passed and greatest depth d
  abbrev onward : ℕ → List Open → ℕ → ℕ → Verdict
  onward end [] n d = Accepted n d
  onward end (o ∷ opens) n d = result m (record { at = end; left = o.saved; before = Other; opens = opens; count = n; deepest = d })

  -- the check reads past the tree: its answer here is its answer from the tree's end on, n instructions later
  abbrev Passes : State → ℕ → ℕ → Type 0
  Passes s end n = (d : ℕ) × (result m s ≡ onward end s.opens (s.count + n) d)

  before_target : (opens : List Open) (p end : ℕ) → Awaited end opens → p < end → past opens p ≡ false
  before_target [] p end a h = refl
  before_target (o ∷ opens) p end a h = lt-leb o.target p (omega arith)

  step_at_lem : (s : State) (i : Instruction) (k end : ℕ) → m.fetch s.at ≡ Whole i → i.opcode ≡ k
      → Awaited end s.opens → s.at < end → end ≤ m.bits → step m s ≡ step_whole m s i k
  unfolding step guard
  step_at_lem s i k end f e a h l =
      rw (lt-leb m.bits s.at (omega arith), before_target s.opens s.at end a h)
      (ap (λ (r : Fetched). step_on m s r) f ∙ ap (λ (c : ℕ). step_whole m s i c) e)

  abbrev standing : Previous → ℕ → ℕ → List Open → ℕ → ℕ → State
  standing b at left opens c d = record { at = at; left = left; before = b; opens = opens; count = c; deepest = d }

  -- a step that goes on to a state from which the check reads past the tree
  passes-next : (end n : ℕ) (opens : List Open) (c : ℕ) {v : Verdict} (d : ℕ) → v ≡ onward end opens (suc c + n) d → v ≡ onward end opens (c + suc n) d
  passes-next end n opens c d e = e ∙ ap (λ (k : ℕ). onward end opens k d) (omega arith)

  module _ (law : Laws m) where
    result_at : (s : State) (i : Instruction) (k end : ℕ) → m.fetch s.at ≡ Whole i → i.opcode ≡ k
        → Awaited end s.opens → s.at < end → end ≤ m.bits → result m s ≡ after (result m) (step_whole m s i k)
    result_at s i k end f e a h l = result-step m law s ∙ ap (after (result m)) (step_at_lem s i k end f e a h l)

    passes-return : (b : Previous) (at left : ℕ) (i : Instruction) → m.fetch at ≡ Whole i → i.opcode ≡ RETURN → is_default b ≡ false
        → (opens : List Open) → Awaited (end_of i) opens → (c d : ℕ) → Passes (standing b at left opens c d) (end_of i) 1
    unfolding guard
    passes-return b at left i f e q [] a c d =
        let s = law.stands _ _ f in
        (d, result_at (standing b at left [] c d) i RETURN (end_of i) f e a (omega arith) (omega arith) ∙ rw (q, a) (ap (λ (n : ℕ). Accepted n d) (omega arith)))
    passes-return b at left i f e q (o ∷ opens) a c d =
        let s = law.stands _ _ f in (
          d,
          result_at (standing b at left (o ∷ opens) c d) i RETURN (end_of i) f e a (omega arith) (omega arith)
              ∙ rw (q, eq-eqb (end_of i) o.target (sym a)) (ap (λ (n : ℕ). result m (standing Other (end_of i) o.saved opens n d)) (omega arith)),
        )

    passes-jump : (b : Previous) (at left end : ℕ) (i : Instruction) (n k : ℕ) → m.fetch at ≡ Whole i → i.opcode ≡ JUMP → 1 ≤ left
        → target_of i < end → end ≤ m.bits → (opens : List Open) → Awaited end opens
        → ((c d : ℕ) → Passes (standing Other (end_of i) (left - 1) (record { target = target_of i; saved = left - 1 } ∷ opens) c d) (target_of i) n)
        → ((c d : ℕ) → Passes (standing Other (target_of i) (left - 1) opens c d) end k)
        → (c d : ℕ) → Passes (standing b at left opens c d) end (suc (n + k))
    unfolding guard
    passes-jump b at left end i n k f e q h l opens a p p' c d =
        let s = law.stands _ _ f in
        let r = p (suc c) (max d (suc (length opens))) in
        let r' = p' (suc c + n) r.0 in (
          r'.0,
          result_at (standing b at left opens c d) i JUMP end f e a (omega arith) l
              ∙ rw (ne_eqb left 0 (omega arith), before_target opens (target_of i) end a h)
              (r.1 ∙ r'.1 ∙ ap (λ (x : ℕ). onward end opens x r'.0) (omega arith)),
        )

    passes-match : (b : Previous) (at left end : ℕ) (i : Instruction) (n : ℕ) → m.fetch at ≡ Whole i → i.opcode ≡ MATCH → length_of i.operand ≤ left
        → (ltb (length_of i.operand) 8 && is_short b) ≡ false
        → end_of i < end → end ≤ m.bits → (opens : List Open) → Awaited end opens
        → ((c d : ℕ) → Passes (standing (after_match (length_of i.operand)) (end_of i) (left - length_of i.operand) opens c d) end n)
        → (c d : ℕ) → Passes (standing b at left opens c d) end (suc n)
    unfolding guard
    passes-match b at left end i n f e q t h l opens a p c d =
        let s = law.stands _ _ f in
        let r = p (suc c) d in (
          r.0,
          passes-next end n opens c r.0 (result_at (standing b at left opens c d) i MATCH end f e a (omega arith) l
              ∙ rw (t, le-ltb left (length_of i.operand) q) r.1),
        )

    passes-default : (b : Previous) (at left end : ℕ) (i : Instruction) (n : ℕ) → m.fetch at ≡ Whole i → i.opcode ≡ DEFAULT → is_default b ≡ false
        → end_of i < end → end ≤ m.bits → (opens : List Open) → Awaited end opens
        → ((c d : ℕ) → Passes (standing Default (end_of i) left opens c d) end n)
        → (c d : ℕ) → Passes (standing b at left opens c d) end (suc n)
    unfolding guard
    passes-default b at left end i n f e q h l opens a p c d =
        let s = law.stands _ _ f in
        let r = p (suc c) d in
        (r.0, passes-next end n opens c r.0 (result_at (standing b at left opens c d) i DEFAULT end f e a (omega arith) l ∙ rw q r.1))

    -- the check reads past every tree that the open jumps wait for
    passes : {b : Previous} {at left end : ℕ} {is : List Instruction} → Tree m b at left end is
        → (opens : List Open) → Awaited end opens → (c d : ℕ) → Passes (standing b at left opens c d) end (length is)
    passes (return {b} {at} {left} {i} f e q) opens a c d = passes-return b at left i f e q opens a c d
    passes (jump {b} {at} {left} {end} {i} {is} {js} f e q t t') opens a c d =
        rw (length-append is js)
        (passes-jump b at left end i (length is) (length js) f e q (forward m law t').0 (forward m law t').1 opens a
        (λ c' d'. passes t (record { target = target_of i; saved = left - 1 } ∷ opens) refl c' d') (λ c' d'. passes t' opens a c' d') c d)
    passes (match {b} {at} {left} {end} {i} {is} f e q h t) opens a c d =
        passes-match b at left end i (length is) f e q h (forward m law t).0 (forward m law t).1 opens a (λ c' d'. passes t opens a c' d') c d
    passes (default {b} {at} {left} {end} {i} {is} f e q t) opens a c d =
        passes-default b at left end i (length is) f e q (forward m law t).0 (forward m law t).1 opens a (λ c' d'. passes t opens a c' d') c d

    -- every program is accepted, with the number of its instructions as count
    pub tree_accepted : {w : ℕ} {is : List Instruction} → Program m w is → (d : ℕ) × (check m w ≡ Accepted (length is) d)
    tree_accepted {w} {is} p =
        let r = passes p.tree [] p.tail 0 0 in
        (r.0, result_start m law w ∙ r.1 ∙ ap (λ (n : ℕ). Accepted n r.0) (omega arith))

  -- one instruction, then the list from its end on
  list_more : {at : ℕ} {i : Instruction} (k n : ℕ) {rest : List Instruction} → m.fetch at ≡ Whole i
      → list_from m (k + n) (end_of i) ≡ rest → list_from m (suc k + n) at ≡ i ∷ rest
  unfolding list_from
  list_more {at} {i} k n f e = ap (λ (x : ℕ). list_from m x at) (suc-add k n) ∙ rw f (ap (λ (l : List Instruction). i ∷ l) e)

  -- a tree's instructions stand each at the end of the one before: with n more from the tree's end on they are the list from its start
  tree_lists : {b : Previous} {at left end : ℕ} {is : List Instruction} → Tree m b at left end is
      → (n : ℕ) → list_from m (length is + n) at ≡ is ++ list_from m n end
  tree_lists (return {i} f e q) n = list_more 0 n f (ap (λ (k : ℕ). list_from m k (end_of i)) (zero-add n))
  tree_lists (jump {end} {i} {is} {js} f e q t t') n =
      list_more (length (is ++ js)) n f
      (ap (λ (k : ℕ). list_from m k (end_of i)) (omega (arith, length-append is js))
      ∙ tree_lists t (length js + n) ∙ ap (λ (l : List Instruction). is ++ l) (tree_lists t' n) ∙ sym (append_assoc is js (list_from m n end)))
  tree_lists (match {is} f e q h t) n = list_more (length is) n f (tree_lists t n)
  tree_lists (default {is} f e q t) n = list_more (length is) n f (tree_lists t n)

  -- and the list unpacked is the program's own, so a map has one program at most
  pub tree-unpacked : Laws m → {w : ℕ} {is : List Instruction} → Program m w is → unpacked m w ≡ is
  unfolding list_from
  tree-unpacked law {w} {is} p =
      let e : length is ≡ length is + 0 = omega arith in
      unpacked_list m w (tree_accepted law p).1 ∙ ap (λ (k : ℕ). list_from m k 0) e ∙ tree_lists p.tree 0 ∙ append-nil is
