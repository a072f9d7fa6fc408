-- What every walk's number is, of an accepted map or not: at a difference the default last read, wherever that DEFAULT stood, and 0
-- where it aborts. By induction on the turns.
-- Assumes nothing.
use Prim.Native.Nat.{ℕ, zero, suc, ◌≤◌, ◌<◌}
use mathlib.Core.Bool.{Bool, true, false, cond}
use mathlib.Core.Path.{◌≡◌, refl, sym, ap, subst, ◌∙◌}
use mathlib.Core.List.Memᴰ
use mathlib.Core.List.{List, [], ◌∷◌, Memᴰ}
use mathlib.Core.Logic.{◌⊎◌, inl, inr, ◌≢◌}
use native.Mathlib.Omega.{arith}
use lib.Dec.{eqb}
use borrow.Author.Tests.{eqb-false, eq-eqb, ne_eqb}
use Rattle.asmap_program.specs.declared.Instruction.{Instruction}
use Rattle.asmap_program.specs.declared.Kind.{Kind}
use Rattle.asmap_program.specs.declared.Kind.TheVariants.{Returned, Differed, OpcodeCut, OperandCut, TooFewBits}
use Rattle.asmap_program.specs.Map.{DEFAULT, Fetched, Whole, CutOpcode, CutOperand, Map, Laws, length_of}
use Rattle.asmap_program.specs.declared.Walker.{Walker}
use Rattle.asmap_program.specs.Walk.{Walked, Turn, Goes, Stops, Compared, Equal, Different, compared, enough, meeting, turn_whole, turn_on, go_on, walk_from, walk}
use Rattle.asmap_program.specs.Demand.{default_after, last_default, NoDefault, Answers, Aborts}

-- what the number of a walk from default d is
record Told (d : ℕ) (r : Walked) : Type 0 where
  differed : r.kind ≡ Differed → r.number ≡ default_after d r.read
  aborted : Aborts r.kind → r.number ≡ 0

-- a turn from default d: the default that it hands on, or what the walk's number is
abbrev Sets : ℕ → Turn → Type 0
Sets d (Goes i s) = s.default ≡ cond (eqb i.opcode DEFAULT) i.operand d
Sets d (Stops r) = Told d r

goes_on : (d : ℕ) (k : Walker → Walked) → ((s : Walker) → Told s.default (k s)) → (t : Turn) → Sets d t → Told d (go_on k t)
unfolding default_after
goes_on d k ih (Goes i s) v =
    let t = ih s in
    record { differed = λ e. t.differed e ∙ ap (λ (x : ℕ). default_after x (k s).read) v; aborted = t.aborted }
goes_on d k ih (Stops r) v = v

-- an end has an answer or is an abort, and never both
pub ends_either_way : (k : Kind) → Answers k ⊎ Aborts k
ends_either_way Returned = inl (inl refl)
ends_either_way Differed = inl (inr refl)
ends_either_way OpcodeCut = inr (inl refl)
ends_either_way OperandCut = inr (inr (inl refl))
ends_either_way TooFewBits = inr (inr (inr refl))

answering : Kind → Bool
answering Returned = true
answering Differed = true
answering OpcodeCut = false
answering OperandCut = false
answering TooFewBits = false

answer_told : (k : Kind) → Answers k → answering k ≡ true
unfolding answering
answer_told k (inl e) = ap answering e
answer_told k (inr e) = ap answering e

abort_told : (k : Kind) → Aborts k → answering k ≡ false
unfolding answering
abort_told k (inl e) = ap answering e
abort_told k (inr (inl e)) = ap answering e
abort_told k (inr (inr e)) = ap answering e

pub never_both : (k : Kind) → Answers k → Aborts k → ⊥
never_both k a b = let e = sym (answer_told k a) ∙ abort_told k b in let z : ◌≡◌ {A = ℕ} 0 1 = cc in absurd (omega arith)

-- with the number 0 all is said of an abort, of whichever kind
told_aborted : (k : Kind) → Aborts k → (d b : ℕ) (is : List Instruction) → Told d (record { kind = k; number = 0; bits = b; read = is })
told_aborted k a d b is = record { differed = λ e. absurd (never_both k (inr e) a); aborted = λ _. refl }

sets_enough : (b : Bool) (s : Walker) (i : Instruction) (t : Turn) → Sets s.default t → Sets s.default (enough b s i t)
unfolding enough
sets_enough true s i t v = v
sets_enough false s i t v = told_aborted TooFewBits (inr (inr refl)) s.default s.used (i ∷ [])

-- an instruction that is no DEFAULT keeps the default
kept : (i : Instruction) (d : ℕ) → i.opcode ≢ DEFAULT → d ≡ cond (eqb i.opcode DEFAULT) i.operand d
kept i d h = rw (ne_eqb i.opcode DEFAULT h)

sets_meeting : (s : Walker) (i : Instruction) → i.opcode ≢ DEFAULT → (c : Compared) → Sets s.default (meeting s i c)
unfolding default_after
sets_meeting s i h Equal = kept i s.default h
sets_meeting s i h (Different u) =
    record { differed = λ _. kept i s.default h; aborted = λ e. absurd (never_both Differed (inr refl) e) }

module _ (address : ℕ → ℕ) (m : Map) (law : Laws m) where
  sets_whole : (s : Walker) (i : Instruction) → i.opcode < 4 → (k : ℕ) → i.opcode ≡ k → Sets s.default (turn_whole address m s i k)
  sets_whole s i l zero e =
      record { differed = λ q. let z : ◌≡◌ {A = ℕ} 0 1 = cc in absurd (omega arith); aborted = λ q. absurd (never_both Returned (inl refl) q) }
  sets_whole s i l (suc zero) e = sets_enough _ s i _ (kept i s.default λ q. omega arith)
  sets_whole s i l (suc (suc zero)) e = sets_enough _ s i _ (sets_meeting s i (λ q. omega arith) (compared address (length_of i.operand) i.operand s.used))
  sets_whole s i l (suc (suc (suc n))) e = rw (eq-eqb i.opcode DEFAULT (omega arith))

  sets : (s : Walker) (r : Fetched) → m.fetch s.at ≡ r → Sets s.default (turn_on address m s r)
  sets s (Whole i) f = sets_whole s i (law.stands _ _ f).known i.opcode refl
  sets s CutOpcode f = told_aborted OpcodeCut (inl refl) s.default s.used []
  sets s (CutOperand op) f = told_aborted OperandCut (inr (inl refl)) s.default s.used []

  told : (f : ℕ) (s : Walker) → Told s.default (walk_from address m f s)
  unfolding walk_from
  told zero s = told_aborted OpcodeCut (inl refl) s.default s.used []
  told (suc f) s = goes_on s.default _ (λ s'. told f s') (turn_on address m s (m.fetch s.at)) (sets s (m.fetch s.at) refl)

  -- A default holds until another DEFAULT is read: whatever was jumped over or left between, a walk that ends at a difference has the
  -- operand of the last DEFAULT that it read as its number, or 0 where it read none.
  pub default_holds_until_another : (w : ℕ) → (walk address m w).kind ≡ Differed → (walk address m w).number ≡ last_default (walk address m w).read
  unfolding walk
  default_holds_until_another w = (told m.bits _).differed

  -- an abort's number is 0, whichever of the three it is; that a number is 0 shows no abort
  pub aborted_gives_zero : (w : ℕ) → Aborts (walk address m w).kind → (walk address m w).number ≡ 0
  unfolding walk
  aborted_gives_zero w = (told m.bits _).aborted

-- ---- every operand that a walk reads is from 1 on

abbrev pub FromOne : List Instruction → Type 0
FromOne is = (i : Instruction) → Memᴰ i is → 1 ≤ i.operand

from_none : FromOne []
from_none j p = absurd (Memᴰ.not-nil p)

from_cons : (i : Instruction) (is : List Instruction) → 1 ≤ i.operand → FromOne is → FromOne (i ∷ is)
from_cons i is h k j p = pick (Memᴰ.cases_cons p)
  where
    pick : (j ≡ i) ⊎ Memᴰ j is → 1 ≤ j.operand
    pick (inl e) = subst (λ (x : Instruction). 1 ≤ x.operand) (sym e) h
    pick (inr q) = k j q

from_last : (i : Instruction) → 1 ≤ i.operand → FromOne (i ∷ [])
from_last i h = from_cons i [] h from_none

-- what a turn reads
abbrev TurnFromOne : Turn → Type 0
TurnFromOne (Goes i s) = 1 ≤ i.operand
TurnFromOne (Stops r) = FromOne r.read

from_enough : (b : Bool) (s : Walker) (i : Instruction) (t : Turn) → 1 ≤ i.operand → TurnFromOne t → TurnFromOne (enough b s i t)
unfolding enough
from_enough true s i t h k = k
from_enough false s i t h k = from_last i h

from_meeting : (s : Walker) (i : Instruction) (c : Compared) → 1 ≤ i.operand → TurnFromOne (meeting s i c)
from_meeting s i Equal h = h
from_meeting s i (Different u) h = from_last i h

from_on : (k : Walker → Walked) → ((s : Walker) → FromOne (k s).read) → (t : Turn) → TurnFromOne t → FromOne (go_on k t).read
from_on k ih (Goes i s) h = from_cons i (k s).read h (ih s)
from_on k ih (Stops r) h = h

module _ (address : ℕ → ℕ) (m : Map) (law : Laws m) where
  from_whole : (s : Walker) (i : Instruction) → 1 ≤ i.operand → (k : ℕ) → TurnFromOne (turn_whole address m s i k)
  from_whole s i h zero = from_last i h
  from_whole s i h (suc zero) = from_enough _ s i _ h h
  from_whole s i h (suc (suc zero)) = from_enough _ s i _ h (from_meeting s i (compared address (length_of i.operand) i.operand s.used) h)
  from_whole s i h (suc (suc (suc n))) = h

  from_turn : (s : Walker) (r : Fetched) → m.fetch s.at ≡ r → TurnFromOne (turn_on address m s r)
  from_turn s (Whole i) f = from_whole s i (law.stands _ _ f).from_one i.opcode
  from_turn s CutOpcode f = from_none
  from_turn s (CutOperand op) f = from_none

  from_walk : (f : ℕ) (s : Walker) → FromOne (walk_from address m f s).read
  unfolding walk_from
  from_walk zero s = from_none
  from_walk (suc f) s = from_on _ (λ s'. from_walk f s') (turn_on address m s (m.fetch s.at)) (from_turn s (m.fetch s.at) refl)

  pub reads_from_one : (w : ℕ) → FromOne (walk address m w).read
  unfolding walk
  reads_from_one w = from_walk m.bits _

-- ---- what a number 0 means at a difference: no DEFAULT can have set it

none_kept : (d : ℕ) (is : List Instruction) → NoDefault is → default_after d is ≡ d
unfolding default_after
none_kept d [] h = refl
none_kept d (i ∷ is) h = rw (ne_eqb i.opcode DEFAULT (h i (Memᴰ.head refl))) (none_kept d is λ j p. h j (Memᴰ.tail p))

pub zero_none : (d : ℕ) (is : List Instruction) → FromOne is → default_after d is ≡ 0 → (d ≡ 0) × NoDefault is
unfolding default_after
zero_none d [] h e = (e, λ j p. absurd (Memᴰ.not-nil p))
zero_none d (i ∷ is) h e =
    go (eqb i.opcode DEFAULT) refl (zero_none (cond (eqb i.opcode DEFAULT) i.operand d) is (λ j p. h j (Memᴰ.tail p)) e)
  where
    go : (b : Bool) → eqb i.opcode DEFAULT ≡ b → (cond (eqb i.opcode DEFAULT) i.operand d ≡ 0) × NoDefault is → (d ≡ 0) × NoDefault (i ∷ is)
    go true q r =
        let z : i.operand ≡ 0 = rw q at r.0 in
        absurd (omega (arith, h i (Memᴰ.head refl)))
    go false q r = (rw q at r.0, λ j p. pick j (Memᴰ.cases_cons p))
      where
        pick : (j : Instruction) → (j ≡ i) ⊎ Memᴰ j is → j.opcode ≢ DEFAULT
        pick j (inl s) = subst (λ (x : Instruction). x.opcode ≢ DEFAULT) (sym s) (eqb-false i.opcode DEFAULT q)
        pick j (inr p) = r.1 j p

module _ (address : ℕ → ℕ) (m : Map) (law : Laws m) where
  -- a difference has number 0 exactly where no DEFAULT was read
  pub zero_when_no_default : (w : ℕ) → (walk address m w).kind ≡ Differed
      → ((walk address m w).number ≡ 0 → NoDefault (walk address m w).read) × (NoDefault (walk address m w).read → (walk address m w).number ≡ 0)
  zero_when_no_default w e =
      let d = default_holds_until_another address m law w e in
      let h = reads_from_one address m law w in
      (λ z. (zero_none 0 (walk address m w).read h (sym d ∙ z)).1, λ n. d ∙ none_kept 0 (walk address m w).read n)
