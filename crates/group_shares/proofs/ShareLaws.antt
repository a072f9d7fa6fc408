-- The shares of a spread by their places: groups rise from place to place, each place has the candidates of its group, and each group of the list
-- has a place.
-- Assumes nothing.
use mathlib.Core.Bool.{Bool, true, false, cond}
use mathlib.Core.Path.{◌≡◌, ◌∙◌, refl, sym}
use mathlib.Core.List.{List, [], ◌∷◌}
use Prim.Native.Nat.{ℕ, zero, suc, ◌≤◌, ◌<◌}
use native.Mathlib.Decide.{ℕ_discrete}
use native.Mathlib.Omega.{arith}
use lib.Dec.{eqb, ltb}
use lib.ListN.{length, get_or}
use Rattle.group_shares.specs.Spread.{Share, share, tally, spread, times, count_in, RisesFrom}
use Rattle.group_shares.proofs.SpreadLaws.{times_here, times_else, count_here, count_else, spread-rises, spread_counts}

abbrev pub share_at : List Share → ℕ → Share
share_at ss k = get_or ss k (share 0 0)

-- ---- shares that rise

rises_from : (b : ℕ) (ss : List Share) (k : ℕ) → RisesFrom b ss → k < length ss → b ≤ (share_at ss k).group
rises_from b [] k r h = absurd (omega arith)
rises_from b (s ∷ ss) zero r h = r.0
rises_from b (s ∷ ss) (suc k) r h = omega (arith, r.0, rises_from (suc s.group) ss k r.2 (omega arith))

rises_next : (b : ℕ) (ss : List Share) (k : ℕ) → RisesFrom b ss → suc k < length ss → (share_at ss k).group < (share_at ss (suc k)).group
rises_next b [] k r h = absurd (omega arith)
rises_next b (s ∷ ss) zero r h = rises_from (suc s.group) ss 0 r.2 (omega arith)
rises_next b (s ∷ ss) (suc k) r h = rises_next (suc s.group) ss k r.2 (omega arith)

some_at : (b : ℕ) (ss : List Share) (k : ℕ) → RisesFrom b ss → k < length ss → 0 < (share_at ss k).count
some_at b [] k r h = absurd (omega arith)
some_at b (s ∷ ss) zero r h = r.1
some_at b (s ∷ ss) (suc k) r h = some_at (suc s.group) ss k r.2 (omega arith)

counted_at : (b : ℕ) (ss : List Share) (k : ℕ) → RisesFrom b ss → k < length ss → count_in (share_at ss k).group ss ≡ (share_at ss k).count
counted_at b [] k r h = absurd (omega arith)
counted_at b (s ∷ ss) zero r h = count_here s.group s ss refl
counted_at b (s ∷ ss) (suc k) r h =
    count_else (share_at ss k).group s ss (λ e. omega (arith, e, rises_from (suc s.group) ss k r.2 (omega arith)))
    ∙ counted_at (suc s.group) ss k r.2 (omega arith)

-- ---- a group that has candidates has a place

stands_at : (g : ℕ) (ss : List Share) → 0 < count_in g ss → (k : ℕ) × (k < length ss) × ((share_at ss k).group ≡ g)
stands_at g [] h = absurd (omega arith)
stands_at g (s ∷ ss) h = go (ℕ_discrete g s.group) (stands_at g ss)
  where
    go : Dec (g ≡ s.group) → (0 < count_in g ss → (k : ℕ) × (k < length ss) × ((share_at ss k).group ≡ g)) → (k : ℕ) × (k < length (s ∷ ss)) × ((share_at (s ∷ ss) k).group ≡ g)
    go (yes e) ih = (0, omega arith, sym e)
    go (no d) ih = let p = ih (omega (arith, h, count_else g s ss d)) in (suc p.0, omega (arith, p.1), p.2)

times_at : (gs : List ℕ) (i : ℕ) → i < length gs → 0 < times (get_or gs i 0) gs
times_at [] i h = absurd (omega arith)
times_at (g ∷ gs) zero h = omega (arith, times_here g g gs refl)
times_at (g ∷ gs) (suc i) h = go (ℕ_discrete (get_or gs i 0) g) (times_at gs i (omega arith))
  where
    go : Dec (get_or gs i 0 ≡ g) → 0 < times (get_or gs i 0) gs → 0 < times (get_or gs i 0) (g ∷ gs)
    go (yes e) ih = omega (arith, times_here (get_or gs i 0) g gs e)
    go (no d) ih = omega (arith, times_else (get_or gs i 0) g gs d, ih)

-- ---- there are no more groups than candidates

tally_most : (g : ℕ) (ss : List Share) → length (tally g ss) ≤ suc (length ss)
tally_most g [] = omega arith
tally_most g (s ∷ ss) = go (ltb g s.group) (eqb g s.group) (tally_most g ss)
  where
    go : (a b : Bool) → length (tally g ss) ≤ suc (length ss) → length (cond a (share g 1 ∷ s ∷ ss) (cond b (share g (suc s.count) ∷ ss) (s ∷ tally g ss))) ≤ suc (suc (length ss))
    go true b ih = omega arith
    go false true ih = omega arith
    go false false ih = omega arith

pub spread_most : (gs : List ℕ) → length (spread gs) ≤ length gs
spread_most [] = omega arith
spread_most (g ∷ gs) = omega (arith, tally_most g (spread gs), spread_most gs)

-- ---- the spread of a list

module _ (gs : List ℕ) where
  pub spread-next : (k : ℕ) → suc k < length (spread gs) → (share_at (spread gs) k).group < (share_at (spread gs) (suc k)).group
  spread-next k h = rises_next 0 (spread gs) k (spread-rises gs) h

  pub spread-times : (k : ℕ) → k < length (spread gs) → (share_at (spread gs) k).count ≡ times (share_at (spread gs) k).group gs
  spread-times k h = sym (counted_at 0 (spread gs) k (spread-rises gs) h) ∙ spread_counts (share_at (spread gs) k).group gs

  pub spread-some : (k : ℕ) → k < length (spread gs) → 0 < times (share_at (spread gs) k).group gs
  spread-some k h = omega (arith, some_at 0 (spread gs) k (spread-rises gs) h, spread-times k h)

  pub spread_has : (i : ℕ) → i < length gs → (k : ℕ) × (k < length (spread gs)) × ((share_at (spread gs) k).group ≡ get_or gs i 0)
  spread_has i h = stands_at (get_or gs i 0) (spread gs) (omega (arith, times_at gs i h, spread_counts (get_or gs i 0) gs))
