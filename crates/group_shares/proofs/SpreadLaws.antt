-- What a spread is: its groups rise, it gives each group as many candidates as the list has of it, and nothing else is so. So lists that have
-- each group as many times have one spread.
-- Assumes nothing.
use borrow.Author.Tests.{lt-ltb, le-ltb, eq-eqb, ne_eqb}
use mathlib.Core.Path.{◌≡◌, ◌∙◌, refl, sym, ap}
use mathlib.Core.List.{List, [], ◌∷◌}
use Prim.Native.Nat.{ℕ, suc, ◌≤◌, ◌<◌}
use native.Mathlib.Decide.{ℕ_discrete, dec_lt}
use native.Mathlib.Omega.{arith}
use lib.ListN.{length}
use Rattle.group_shares.specs.Spread.{Share, share, tally, spread, times, count_in, RisesFrom}
use Rattle.group_shares.specs.models.Sorted.{Below}

-- ---- how many of a list are g

module _ (g x : ℕ) (xs : List ℕ) where
  pub times_here : g ≡ x → times g (x ∷ xs) ≡ suc (times g xs)
  times_here e = rw (eq-eqb g x e)

  pub times_else : (g ≡ x → ⊥) → times g (x ∷ xs) ≡ times g xs
  times_else e = rw (ne_eqb g x e)

-- ---- how many the shares give it

module _ (g : ℕ) (s : Share) (ss : List Share) where
  pub count_here : g ≡ s.group → count_in g (s ∷ ss) ≡ s.count
  count_here e = rw (eq-eqb g s.group e)

  pub count_else : (g ≡ s.group → ⊥) → count_in g (s ∷ ss) ≡ count_in g ss
  count_else e = rw (ne_eqb g s.group e)

-- groups that rise from a number on are none below it
pub none_below : (b g : ℕ) (ss : List Share) → RisesFrom b ss → g < b → count_in g ss ≡ 0
none_below b g [] r h = refl
none_below b g (s ∷ ss) r h = count_else g s ss (λ e. omega (arith, e, h, r.0)) ∙ none_below (suc s.group) g ss r.2 (omega (arith, r.0))

pub rises_lower : (b c : ℕ) (ss : List Share) → RisesFrom c ss → b ≤ c → RisesFrom b ss
rises_lower b c [] r h = r
rises_lower b c (s ∷ ss) r h = (omega (arith, r.0), r.1, r.2)

-- ---- one candidate more

module _ (g : ℕ) (s : Share) (ss : List Share) where
  tally_front : g < s.group → tally g (s ∷ ss) ≡ share g 1 ∷ s ∷ ss
  tally_front h = rw (lt-ltb g s.group h)

  tally_here : g ≡ s.group → tally g (s ∷ ss) ≡ share g (suc s.count) ∷ ss
  tally_here e = rw (le-ltb g s.group (omega (arith, e)), eq-eqb g s.group e)

  tally_on : s.group < g → tally g (s ∷ ss) ≡ s ∷ tally g ss
  tally_on h = rw (le-ltb g s.group (omega arith), ne_eqb g s.group (λ e. omega (arith, e, h)))

tally-rises : (b g : ℕ) (ss : List Share) → RisesFrom b ss → b ≤ g → RisesFrom b (tally g ss)
tally-rises b g [] r h = (h, omega arith, tt)
tally-rises b g (s ∷ ss) r h = go (dec_lt g s.group) (ℕ_discrete g s.group) (tally-rises (suc s.group) g ss r.2)
  where
    go : Dec (g < s.group) → Dec (g ≡ s.group) → (suc s.group ≤ g → RisesFrom (suc s.group) (tally g ss)) → RisesFrom b (tally g (s ∷ ss))
    go (yes l) _ ih = rw (tally_front g s ss l) (h, omega arith, (l, r.1, r.2))
    go (no l) (yes e) ih = rw (tally_here g s ss e) (h, omega arith, rises_lower (suc g) (suc s.group) ss r.2 (omega (arith, e)))
    go (no l) (no e) ih = rw (tally_on g s ss (omega (arith, l, e))) (r.0, r.1, ih (omega (arith, l, e)))

-- its own group has one more
tally_same : (b g : ℕ) (ss : List Share) → RisesFrom b ss → count_in g (tally g ss) ≡ suc (count_in g ss)
tally_same b g [] r = rw (eq-eqb g g refl)
tally_same b g (s ∷ ss) r = go (dec_lt g s.group) (ℕ_discrete g s.group) (tally_same (suc s.group) g ss r.2)
  where
    go : Dec (g < s.group) → Dec (g ≡ s.group) → count_in g (tally g ss) ≡ suc (count_in g ss) → count_in g (tally g (s ∷ ss)) ≡ suc (count_in g (s ∷ ss))
    go (yes l) _ ih = rw (tally_front g s ss l) (count_here g (share g 1) (s ∷ ss) refl ∙ ap suc (sym (none_below s.group g (s ∷ ss) (omega arith, r.1, r.2) l)))
    go (no l) (yes e) ih = rw (tally_here g s ss e) (count_here g (share g (suc s.count)) ss refl ∙ ap suc (sym (count_here g s ss e)))
    go (no l) (no e) ih = rw (tally_on g s ss (omega (arith, l, e))) (count_else g s (tally g ss) e ∙ ih ∙ ap suc (sym (count_else g s ss e)))

-- another has as many as before
tally_other : (x g : ℕ) (ss : List Share) → (x ≡ g → ⊥) → count_in x (tally g ss) ≡ count_in x ss
tally_other x g [] d = rw (ne_eqb x g d)
tally_other x g (s ∷ ss) d = go (dec_lt g s.group) (ℕ_discrete g s.group) (ℕ_discrete x s.group) (tally_other x g ss d)
  where
    go : Dec (g < s.group) → Dec (g ≡ s.group) → Dec (x ≡ s.group) → count_in x (tally g ss) ≡ count_in x ss → count_in x (tally g (s ∷ ss)) ≡ count_in x (s ∷ ss)
    go (yes l) _ _ ih = rw (tally_front g s ss l) (count_else x (share g 1) (s ∷ ss) d)
    go (no l) (yes e) _ ih = rw (tally_here g s ss e) (count_else x (share g (suc s.count)) ss d ∙ sym (count_else x s ss (λ f. d (f ∙ sym e))))
    go (no l) (no e) (yes f) ih = rw (tally_on g s ss (omega (arith, l, e))) (count_here x s (tally g ss) f ∙ sym (count_here x s ss f))
    go (no l) (no e) (no f) ih = rw (tally_on g s ss (omega (arith, l, e))) (count_else x s (tally g ss) f ∙ ih ∙ sym (count_else x s ss f))

-- ---- the spread

pub spread-rises : (gs : List ℕ) → RisesFrom 0 (spread gs)
spread-rises [] = tt
spread-rises (g ∷ gs) = tally-rises 0 g (spread gs) (spread-rises gs) (omega arith)

pub spread_counts : (x : ℕ) (gs : List ℕ) → count_in x (spread gs) ≡ times x gs
spread_counts x [] = refl
spread_counts x (g ∷ gs) = go (ℕ_discrete x g) (spread_counts x gs)
  where
    go : Dec (x ≡ g) → count_in x (spread gs) ≡ times x gs → count_in x (tally g (spread gs)) ≡ times x (g ∷ gs)
    go (yes e) ih = ap (λ (y : ℕ). count_in y (tally g (spread gs))) e ∙ tally_same 0 g (spread gs) (spread-rises gs) ∙ ap (λ (y : ℕ). suc (count_in y (spread gs))) (sym e) ∙ ap suc ih ∙ sym (times_here x g gs e)
    go (no d) ih = tally_other x g (spread gs) d ∙ ih ∙ sym (times_else x g gs d)

-- ---- its numbers

-- shares of groups that are at most m, with at most n candidates each
abbrev pub Within : ℕ → ℕ → List Share → Type 0
Within m n [] = Unit {0}
Within m n (s ∷ ss) = (s.group ≤ m) × (s.count ≤ n) × Within m n ss

within_more : (m n : ℕ) (ss : List Share) → Within m n ss → Within m (suc n) ss
within_more m n [] w = tt
within_more m n (s ∷ ss) w = (w.0, omega (arith, w.1), within_more m n ss w.2)

tally_within : (m n g : ℕ) (ss : List Share) → g ≤ m → Within m n ss → Within m (suc n) (tally g ss)
tally_within m n g [] h w = (h, omega arith, tt)
tally_within m n g (s ∷ ss) h w = go (dec_lt g s.group) (ℕ_discrete g s.group) (tally_within m n g ss h w.2)
  where
    go : Dec (g < s.group) → Dec (g ≡ s.group) → Within m (suc n) (tally g ss) → Within m (suc n) (tally g (s ∷ ss))
    go (yes l) _ ih = rw (tally_front g s ss l) (h, omega arith, within_more m n (s ∷ ss) w)
    go (no l) (yes e) ih = rw (tally_here g s ss e) (h, omega (arith, w.1), within_more m n ss w.2)
    go (no l) (no e) ih = rw (tally_on g s ss (omega (arith, l, e))) (w.0, omega (arith, w.1), ih)

-- no group has more candidates than the list
pub spread_within : (m : ℕ) (gs : List ℕ) → Below m gs → Within m (length gs) (spread gs)
spread_within m [] b = tt
spread_within m (g ∷ gs) b = tally_within m (length gs) g (spread gs) b.0 (spread_within m gs b.1)

-- ---- nothing else rises and counts so

share_same : (s t : Share) → s.group ≡ t.group → s.count ≡ t.count → s ≡ t
share_same s t e f = ap (λ (g : ℕ). share g s.count) e ∙ ap (share t.group) f

first_counts : (b : ℕ) (s : Share) (ss : List Share) → RisesFrom b (s ∷ ss) → count_in s.group (s ∷ ss) ≡ 0 → ⊥
first_counts b s ss r e = omega (arith, r.1, sym (count_here s.group s ss refl) ∙ e)

pub only-spread : (b : ℕ) (ss ts : List Share) → RisesFrom b ss → RisesFrom b ts → ((g : ℕ) → count_in g ss ≡ count_in g ts) → ss ≡ ts
only-spread b [] [] r q h = refl
only-spread b [] (t ∷ ts) r q h = absurd (first_counts b t ts q (sym (h t.group)))
only-spread b (s ∷ ss) [] r q h = absurd (first_counts b s ss r (h s.group))
only-spread b (s ∷ ss) (t ∷ ts) r q h = go (dec_lt s.group t.group) (ℕ_discrete s.group t.group) (only-spread (suc s.group) ss ts r.2)
  where
    tails : s.group ≡ t.group → (g : ℕ) → Dec (g ≡ s.group) → count_in g ss ≡ count_in g ts
    tails e g (yes f) = none_below (suc s.group) g ss r.2 (omega (arith, f)) ∙ sym (none_below (suc t.group) g ts q.2 (omega (arith, f, e)))
    tails e g (no f) = sym (count_else g s ss f) ∙ h g ∙ count_else g t ts (λ k. f (k ∙ sym e))

    go : Dec (s.group < t.group) → Dec (s.group ≡ t.group) → (RisesFrom (suc s.group) ts → ((g : ℕ) → count_in g ss ≡ count_in g ts) → ss ≡ ts) → s ∷ ss ≡ t ∷ ts
    go (yes l) _ ih = absurd (first_counts b s ss r (h s.group ∙ none_below t.group s.group (t ∷ ts) (omega arith, q.1, q.2) l))
    go (no l) (yes e) ih =
        let c : s.count ≡ t.count = sym (count_here s.group s ss refl) ∙ h s.group ∙ count_here s.group t ts e in
        let w = ih (rises_lower (suc s.group) (suc t.group) ts q.2 (omega (arith, e))) (λ g. tails e g (ℕ_discrete g s.group)) in
        ap (λ (x : Share). x ∷ ss) (share_same s t e c) ∙ ap (λ (xs : List Share). t ∷ xs) w
    go (no l) (no e) ih = absurd (first_counts b t ts q (sym (h t.group) ∙ none_below s.group t.group (s ∷ ss) (omega arith, r.1, r.2) (omega (arith, l, e))))
