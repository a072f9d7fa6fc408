-- The instructions that stand one after the other, and that the check's own list of an accepted map is such a list, up to the padding.
-- Assumes nothing.
use Prim.Native.Nat.{ℕ}
use mathlib.Core.Path.{◌≡◌, refl, sym, ap₂, subst}
use mathlib.Core.List.{List, [], ◌∷◌}
use mathlib.Core.Bool.{true}
use Rattle.asmap_program.specs.declared.Instruction.{Instruction}
use Rattle.asmap_program.specs.Map.{end_of, Fetched, Whole, Map}
use Rattle.asmap_program.specs.Check.{State, start, check, unpacked}
use Rattle.asmap_program.proofs.Tree.{Accepts, last, more, accepts}
use Rattle.asmap_program.proofs.Loop.{moved}
use Rattle.asmap_program.specs.Verdict.{Accepted}

module _ (m : Map) where
  -- the instructions that stand from p to q, one after the other
  pub data Listing : ℕ → List Instruction → ℕ → Type 0 where
    none : {p : ℕ} → Listing p [] p
    then : {p q : ℕ} {i : Instruction} {is : List Instruction} → m.fetch p ≡ Whole i → Listing (end_of i) is q → Listing p (i ∷ is) q

  -- nothing whole stands at p
  abbrev pub Stop : ℕ → Type 0
  Stop p = (i : Instruction) → m.fetch p ≡ Whole i → ⊥

  whole_same : {a b : Instruction} {x : Fetched} → x ≡ Whole a → x ≡ Whole b → a ≡ b
  whole_same e e' = cc

  -- two listings from one place to places where nothing stands are the same
  pub one_listing : {p q r : ℕ} {is js : List Instruction} → Listing p is q → Listing p js r → Stop q → Stop r → is ≡ js
  one_listing none none h k = refl
  one_listing none (then {i} f l) h k = absurd (h i f)
  one_listing (then {i} f l) none h k = absurd (k i f)
  one_listing {r} (then {i} {is} f l) (then {i = j} {is = js} g l') h k =
      let e : j ≡ i = whole_same g f in
      ap₂ ◌∷◌ (sym e) (one_listing {r = r} l (subst (λ (x : Instruction). Listing (end_of x) js r) e l') h k)

  -- an accepted run: its instructions stand one after the other, up to a place from which the padding is right
  pub record Listed (p : ℕ) (is : List Instruction) : Type 0 where
    pub end : ℕ
    pub all : Listing p is end
    pub tail : m.padded end ≡ true

  listed-run : {s : State} {is : List Instruction} {c d : ℕ} → Accepts m s is c d → Listed s.at is
  listed-run (last {i} v) = record { end = end_of i; all = then v.fetched none; tail = v.good }
  listed-run (more {s} {i} {s'} {is} f v a) =
      let r = rw (moved m v) at (listed-run a) in
      record { end = r.end; all = then f r.all; tail = r.tail }

  pub accepted_lists : {c d : ℕ} (w : ℕ) → check m w ≡ Accepted c d → Listed 0 (unpacked m w)
  unfolding check unpacked
  accepted_lists w h = listed-run (accepts m m.bits (start w) h)
