-- Runs of equal groups: how they begin, and that the runs of a sorted list are its spread.
-- Assumes nothing.
use borrow.Author.Tests.{eq-eqb, ne_eqb}
use mathlib.Core.Path.{◌≡◌, ◌∙◌, refl, sym, ap}
use mathlib.Core.List.{List, [], ◌∷◌}
use Prim.Native.Nat.{ℕ, suc, ◌+◌, ◌≤◌, ◌<◌}
use native.Mathlib.Decide.{ℕ_discrete}
use native.Mathlib.Omega.{arith}
use lib.ListN.{length, drop, get_or, length-drop, drop_of_length-le}
use lib.Seq.{drop-cons, drop-drop}
use Rattle.group_shares.specs.Spread.{Share, share, spread, times, count_in, RisesFrom}
use Rattle.group_shares.specs.models.Runs.{front, add_run, runs}
use Rattle.group_shares.specs.models.Sorted.{Sorted, Arranged}
use Rattle.group_shares.proofs.SpreadLaws.{times_here, times_else, count_here, count_else, none_below, rises_lower, spread-rises, spread_counts, only-spread}

-- ---- the groups at the front

module _ (g x : ℕ) (xs : List ℕ) where
  front_here : g ≡ x → front g (x ∷ xs) ≡ suc (front g xs)
  front_here e = rw (eq-eqb g x e)

  front_else : (g ≡ x → ⊥) → front g (x ∷ xs) ≡ 0
  front_else e = rw (ne_eqb g x e)

front_most : (g : ℕ) (xs : List ℕ) → front g xs ≤ length xs
front_most g [] = omega arith
front_most g (x ∷ xs) = go (ℕ_discrete g x) (front_most g xs)
  where
    go : Dec (g ≡ x) → front g xs ≤ length xs → front g (x ∷ xs) ≤ suc (length xs)
    go (yes e) h = omega (arith, front_here g x xs e)
    go (no d) h = omega (arith, front_else g x xs d)

-- the groups from a place on
module _ (g : ℕ) (gs : List ℕ) (i : ℕ) (h : i < length gs) where
  pub front_on : get_or gs i 0 ≡ g → front g (drop i gs) ≡ suc (front g (drop (suc i) gs))
  front_on e = ap (front g) (drop-cons gs i 0 h) ∙ front_here g (get_or gs i 0) (drop (suc i) gs) (sym e)

  pub front_ends : (get_or gs i 0 ≡ g → ⊥) → front g (drop i gs) ≡ 0
  front_ends d = ap (front g) (drop-cons gs i 0 h) ∙ front_else g (get_or gs i 0) (drop (suc i) gs) (λ e. d (sym e))

pub front-done : (g : ℕ) (gs : List ℕ) (i : ℕ) → length gs ≤ i → front g (drop i gs) ≡ 0
front-done g gs i h = ap (front g) (drop_of_length-le gs h)

-- ---- a run more

module _ (g : ℕ) (s : Share) (ss : List Share) where
  add_here : g ≡ s.group → add_run g (s ∷ ss) ≡ share g (suc s.count) ∷ ss
  add_here e = rw (eq-eqb g s.group e)

  add_else : (g ≡ s.group → ⊥) → add_run g (s ∷ ss) ≡ share g 1 ∷ s ∷ ss
  add_else e = rw (ne_eqb g s.group e)

-- the first run, and the runs behind it
runs-split : (g : ℕ) (xs : List ℕ) → runs (g ∷ xs) ≡ share g (suc (front g xs)) ∷ runs (drop (front g xs) xs)
runs-split g [] = refl
runs-split g (x ∷ xs) = go (ℕ_discrete g x) (runs-split x xs)
  where
    go : Dec (g ≡ x) → runs (x ∷ xs) ≡ share x (suc (front x xs)) ∷ runs (drop (front x xs) xs) → add_run g (runs (x ∷ xs)) ≡ share g (suc (front g (x ∷ xs))) ∷ runs (drop (front g (x ∷ xs)) (x ∷ xs))
    go (yes e) ih =
        ap (add_run g) ih
        ∙ add_here g (share x (suc (front x xs))) (runs (drop (front x xs) xs)) e
        ∙ ap (λ (y : ℕ). share g (suc (suc (front y xs))) ∷ runs (drop (front y xs) xs)) (sym e)
        ∙ ap (λ (k : ℕ). share g (suc k) ∷ runs (drop k (x ∷ xs))) (sym (front_here g x xs e))
    go (no d) ih =
        ap (add_run g) ih
        ∙ add_else g (share x (suc (front x xs))) (runs (drop (front x xs) xs)) d
        ∙ ap (λ (rs : List Share). share g 1 ∷ rs) (sym ih)
        ∙ ap (λ (k : ℕ). share g (suc k) ∷ runs (drop k (x ∷ xs))) (sym (front_else g x xs d))

-- from a place on
pub runs_from : (gs : List ℕ) (i : ℕ) → i < length gs
    → runs (drop i gs) ≡ share (get_or gs i 0) (front (get_or gs i 0) (drop i gs)) ∷ runs (drop (i + front (get_or gs i 0) (drop i gs)) gs)
runs_from gs i h =
    let g = get_or gs i 0 in
    let k = front g (drop (suc i) gs) in
    let f = front_on g gs i h refl in
    let e : suc i + k ≡ i + suc k = omega arith in
    ap runs (drop-cons gs i 0 h)
    ∙ runs-split g (drop (suc i) gs)
    ∙ ap (λ (xs : List ℕ). share g (suc k) ∷ runs xs) (drop-drop k (suc i) gs ∙ ap (λ (j : ℕ). drop j gs) e)
    ∙ ap (λ (j : ℕ). share g j ∷ runs (drop (i + j) gs)) (sym f)

pub runs_done : (gs : List ℕ) (i : ℕ) → length gs ≤ i → runs (drop i gs) ≡ []
runs_done gs i h = ap runs (drop_of_length-le gs h)

-- how far a run goes
pub run_goes : (gs : List ℕ) (i : ℕ) → i < length gs → (0 < front (get_or gs i 0) (drop i gs)) × (i + front (get_or gs i 0) (drop i gs) ≤ length gs)
run_goes gs i h = (omega (arith, front_on (get_or gs i 0) gs i h refl), omega (arith, front_most (get_or gs i 0) (drop i gs), length-drop i gs))

-- ---- the runs of a sorted list

add-rises : (g h : ℕ) (rs : List Share) → g ≤ h → RisesFrom h rs → RisesFrom g (add_run g rs)
add-rises g h [] l r = (omega arith, omega arith, tt)
add-rises g h (s ∷ ss) l r = go (ℕ_discrete g s.group)
  where
    go : Dec (g ≡ s.group) → RisesFrom g (add_run g (s ∷ ss))
    go (yes e) = rw (add_here g s ss e) (omega arith, omega arith, rises_lower (suc g) (suc s.group) ss r.2 (omega (arith, e)))
    go (no d) = rw (add_else g s ss d) (omega arith, omega arith, (omega (arith, r.0, d), r.1, r.2))

runs_rise : (g : ℕ) (gs : List ℕ) → Sorted (g ∷ gs) → RisesFrom g (runs (g ∷ gs))
runs_rise g [] s = (omega arith, omega arith, tt)
runs_rise g (h ∷ gs) s = add-rises g h (runs (h ∷ gs)) s.0.0 (runs_rise h gs s.1)

sorted_rises : (gs : List ℕ) → Sorted gs → RisesFrom 0 (runs gs)
sorted_rises [] s = tt
sorted_rises (g ∷ gs) s = rises_lower 0 g (runs (g ∷ gs)) (runs_rise g gs s) (omega arith)

add_same : (g h : ℕ) (rs : List Share) → g ≤ h → RisesFrom h rs → count_in g (add_run g rs) ≡ suc (count_in g rs)
add_same g h [] l r = rw (eq-eqb g g refl)
add_same g h (s ∷ ss) l r = go (ℕ_discrete g s.group)
  where
    go : Dec (g ≡ s.group) → count_in g (add_run g (s ∷ ss)) ≡ suc (count_in g (s ∷ ss))
    go (yes e) = rw (add_here g s ss e) (count_here g (share g (suc s.count)) ss refl ∙ ap suc (sym (count_here g s ss e)))
    go (no d) = rw (add_else g s ss d) (count_here g (share g 1) (s ∷ ss) refl ∙ ap suc (sym (none_below s.group g (s ∷ ss) (omega arith, r.1, r.2) (omega (arith, r.0, d)))))

add_other : (x g : ℕ) (rs : List Share) → (x ≡ g → ⊥) → count_in x (add_run g rs) ≡ count_in x rs
add_other x g [] d = rw (ne_eqb x g d)
add_other x g (s ∷ ss) d = go (ℕ_discrete g s.group)
  where
    go : Dec (g ≡ s.group) → count_in x (add_run g (s ∷ ss)) ≡ count_in x (s ∷ ss)
    go (yes e) = rw (add_here g s ss e) (count_else x (share g (suc s.count)) ss d ∙ sym (count_else x s ss (λ f. d (f ∙ sym e))))
    go (no f) = rw (add_else g s ss f) (count_else x (share g 1) (s ∷ ss) d)

-- the runs behind the first group of a sorted list rise from it on
behind-rises : (g : ℕ) (gs : List ℕ) → Sorted (g ∷ gs) → RisesFrom g (runs gs)
behind-rises g [] s = tt
behind-rises g (h ∷ gs) s = rises_lower g h (runs (h ∷ gs)) (runs_rise h gs s.1) s.0.0

runs_count : (x : ℕ) (gs : List ℕ) → Sorted gs → count_in x (runs gs) ≡ times x gs
runs_count x [] s = refl
runs_count x (g ∷ gs) s = go (ℕ_discrete x g) (runs_count x gs s.1)
  where
    go : Dec (x ≡ g) → count_in x (runs gs) ≡ times x gs → count_in x (add_run g (runs gs)) ≡ times x (g ∷ gs)
    go (yes e) ih = ap (λ (y : ℕ). count_in y (add_run g (runs gs))) e ∙ add_same g g (runs gs) (omega arith) (behind-rises g gs s) ∙ ap (λ (y : ℕ). suc (count_in y (runs gs))) (sym e) ∙ ap suc ih ∙ sym (times_here x g gs e)
    go (no d) ih = add_other x g (runs gs) d ∙ ih ∙ sym (times_else x g gs d)

-- a list that is arranged has the spread as its runs
pub arranged-spread : (xs ys : List ℕ) → Arranged xs ys → runs ys ≡ spread xs
arranged-spread xs ys a = only-spread 0 (runs ys) (spread xs) (sorted_rises ys a.sorted) (spread-rises xs) (λ g. runs_count g ys a.sorted ∙ a.same g ∙ sym (spread_counts g xs))
