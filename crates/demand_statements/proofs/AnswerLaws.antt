-- What an answer says, from the contract that every exported call has (`Hands`).
-- Assumes nothing.
use Prim.Native.Nat.{ℕ}
use mathlib.Core.Path.{◌≡◌, ap, ap₂, subst}
use mathlib.Core.Logic.{◌⊎◌, inl, inr}
use mathlib.Core.List.{List, [], ◌∷◌}
use Rattle.answer_outcome.specs.Outcome.{Outcome, Done, No, handed, IsDone, Hands}
use Rattle.answer_maps.specs.Maps.{map_checked}
use Rattle.answers.proofs.Handing.{Refuses}
use Rattle.asmap_program.specs.Verdict.{Accepted, Verdict}
use Rattle.refusals.specs.declared.Fault.{Fault}
use Rattle.refusals.specs.Numbers.{fault_number, of_map}
use Rattle.std.specs.Prelude.{Err, Ok}

-- ---- any call

-- a refused call leaves what was lent
pub kept : (o : Outcome) {r : ℕ} {lent left : List ℕ} → Hands o r lent left → (r ≡ 0 → ⊥) → left ≡ lent
unfolding handed
kept (Done ns) {r} h n = let e = h.numbers in let z : r ≡ 0 = cc in absurd (n z)
kept (No k) h n = let e = h.numbers in cc

-- an answer is 0, or a number that a refusal has
pub numbered : (P : ℕ → Type 0) (o : Outcome) {r : ℕ} {lent left : List ℕ} → Refuses P o → Hands o r lent left → (r ≡ 0) ⊎ P r
unfolding handed Refuses
numbered P (Done ns) p h = let e = h.numbers in inl cc
numbered P (No k) {r} p h = let e = h.numbers in let q : k ≡ r = cc in inr (subst P q p)

-- the number of a refusal, and 0 for what is done
pub refused_as : (o : Outcome) {r k : ℕ} {lent left : List ℕ} → o ≡ No k → Hands o r lent left → r ≡ k
unfolding handed
refused_as o e h = let n = rw e at h.numbers in cc

pub done_as : (o : Outcome) {r : ℕ} {ns lent left : List ℕ} → o ≡ Done ns → Hands o r lent left → r ≡ 0
unfolding handed
done_as o e h = let n = rw e at h.numbers in cc

-- ---- the check

-- 0: accepted
pub accepted : (v : Verdict) {r c d : ℕ} {lent : List ℕ} → Hands (map_checked (of_map v)) r lent (c ∷ d ∷ []) → r ≡ 0 → v ≡ Accepted c d
unfolding handed IsDone map_checked
accepted (Ok got) {r} {c} {d} h z =
    let e = h.numbers in
    let x : got.count ≡ c = cc in
    let y : got.depth ≡ d = cc in
    ap₂ Accepted x y
accepted (Err f) h z = absurd (h.zero_is_done z)

-- and an accepted map is answered by 0
pub answered : (v : Verdict) {r c d : ℕ} {lent left : List ℕ} → v ≡ Accepted c d → Hands (map_checked (of_map v)) r lent left → r ≡ 0
unfolding map_checked
answered v e h = done_as (map_checked (of_map v)) (ap (λ (x : Verdict). map_checked (of_map x)) e) h

-- with its count and its depth
pub handed_out : (v : Verdict) {r c d : ℕ} {lent left : List ℕ} → v ≡ Accepted c d → Hands (map_checked (of_map v)) r lent left → (r ≡ 0) × (left ≡ c ∷ d ∷ [])
unfolding handed map_checked
handed_out v e h = let k = rw e at h.numbers in (cc, cc)

-- the number of what is wrong is the answer
pub refused_by : (v : Verdict) {f : Fault} {r : ℕ} {lent left : List ℕ} → v ≡ Err f → Hands (map_checked (of_map v)) r lent left → r ≡ fault_number f
unfolding map_checked
refused_by v e h = refused_as (map_checked (of_map v)) (ap (λ (x : Verdict). map_checked (of_map x)) e) h
