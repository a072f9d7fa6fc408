-- What document 01 says of the candidates examined, of the definition: all where max is not reached, else those to the one whose
-- taking reaches max; none where max is 0.
-- Assumes nothing.
use mathlib.Core.Path.{◌≡◌, refl, sym, ap}
use mathlib.Core.List.{List, [], ◌∷◌, ◌++◌}
use mathlib.Core.Bool.{Bool, true, false, cond}
use native.Mathlib.Decide.{dec_le}
use Prim.Native.Nat.{ℕ, suc, ◌+◌, ◌≤◌, ◌<◌}
use native.Mathlib.Omega.{arith}
use borrow.Author.Tests.{lt-ltb, ltb-false}
use lib.Dec.{ltb}
use lib.ListN.{length}
use Rattle.free_groups.specs.Free.{free}
use Rattle.pick_passes.specs.First.{Pass, begin, take_next, pass_over, examine, pass_from, first_pass}
use Rattle.pick_passes.proofs.Passes.{pass_full, examine_count}

-- the place after the last
abbrev pub after : List ℕ → ℕ
after [] = 0
after (p ∷ []) = p + 1
after (p ∷ q ∷ ps) = after (q ∷ ps)

after_snoc : (ps : List ℕ) (p : ℕ) → after (ps ++ (p ∷ [])) ≡ p + 1
after_snoc [] p = refl
after_snoc (q ∷ []) p = refl
after_snoc (q ∷ r ∷ ps) p = after_snoc (r ∷ ps) p

from_all : (occupied : List ℕ) (max : ℕ) (s : Pass) (gs : List ℕ) → length (pass_from occupied max s gs).groups < max
    → (pass_from occupied max s gs).examined ≡ s.examined + length gs
from_all occupied max s [] h = omega arith
from_all occupied max s (g ∷ gs) h = go (ltb (length s.groups) max) refl (from_all occupied max (examine occupied g s) gs) h
  where
    go : (b : Bool) → ltb (length s.groups) max ≡ b
        → (length (pass_from occupied max (examine occupied g s) gs).groups < max → (pass_from occupied max (examine occupied g s) gs).examined ≡ (examine occupied g s).examined + length gs)
        → length (cond b (pass_from occupied max (examine occupied g s) gs) s).groups < max
        → (cond b (pass_from occupied max (examine occupied g s) gs) s).examined ≡ s.examined + suc (length gs)
    go true e k h = omega (arith, k h, examine_count occupied g s)
    go false e k h = absurd (omega (arith, ltb-false (length s.groups) max e))

from_last : (occupied : List ℕ) (max : ℕ) (s : Pass) (gs : List ℕ) → length s.groups < max → max ≤ length (pass_from occupied max s gs).groups
    → (pass_from occupied max s gs).examined ≡ after (pass_from occupied max s gs).places
from_last occupied max s [] l h = absurd (omega arith)
from_last occupied max s (g ∷ gs) l h =
    rw (lt-ltb (length s.groups) max l)
    (go (free occupied s.groups g) (from_last occupied max (take_next g s) gs) (from_last occupied max (pass_over s) gs l) (rw (lt-ltb (length s.groups) max l) at h))
  where
    taken : Dec (max ≤ length (take_next g s).groups)
        → (length (take_next g s).groups < max → max ≤ length (pass_from occupied max (take_next g s) gs).groups → (pass_from occupied max (take_next g s) gs).examined ≡ after (pass_from occupied max (take_next g s) gs).places)
        → max ≤ length (pass_from occupied max (take_next g s) gs).groups
        → (pass_from occupied max (take_next g s) gs).examined ≡ after (pass_from occupied max (take_next g s) gs).places
    taken (yes full) k h = rw (pass_full occupied max (take_next g s) gs full) (sym (after_snoc s.places s.examined))
    taken (no more) k h = k (omega arith) h

    go : (b : Bool)
        → (length (take_next g s).groups < max → max ≤ length (pass_from occupied max (take_next g s) gs).groups → (pass_from occupied max (take_next g s) gs).examined ≡ after (pass_from occupied max (take_next g s) gs).places)
        → (max ≤ length (pass_from occupied max (pass_over s) gs).groups → (pass_from occupied max (pass_over s) gs).examined ≡ after (pass_from occupied max (pass_over s) gs).places)
        → max ≤ length (pass_from occupied max (cond b (take_next g s) (pass_over s)) gs).groups
        → (pass_from occupied max (cond b (take_next g s) (pass_over s)) gs).examined ≡ after (pass_from occupied max (cond b (take_next g s) (pass_over s)) gs).places
    go true k o h = taken (dec_le max (length (take_next g s).groups)) k h
    go false k o h = o h

module _ (occupied : List ℕ) (max : ℕ) (gs : List ℕ) where
  pub examined_all : length (first_pass occupied max gs).groups < max → (first_pass occupied max gs).examined ≡ length gs
  examined_all h = omega (arith, from_all occupied max begin gs h)

  pub examined_last : 0 < max → max ≤ length (first_pass occupied max gs).groups → (first_pass occupied max gs).examined ≡ after (first_pass occupied max gs).places
  examined_last p h = from_last occupied max begin gs p h

pub examined_none : (occupied gs : List ℕ) → (first_pass occupied 0 gs).examined ≡ 0
examined_none occupied gs = ap (λ (p : Pass). p.examined) (pass_full occupied 0 begin gs (omega arith))
