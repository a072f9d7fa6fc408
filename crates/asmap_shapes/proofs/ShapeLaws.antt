-- Laws of shapes: a RETURN stands exactly where all addresses have one number; what an address finds is its number; address bits that do not
-- matter make no difference. Assumes nothing.
use Prim.Native.Nat.{ℕ, zero, suc, ◌+◌, ◌*◌, ◌/◌, ◌^◌, ◌≤◌, max}
use mathlib.Core.Bool.{Bool, true, false, cond}
use mathlib.Core.Path.{◌≡◌, refl, sym, ap, ap₂, ◌∙◌}
use native.Mathlib.Omega.{arith}
use lib.Dec.{eqb}
use borrow.Author.Tests.{eqb-true, eqb-false, eq-eqb}
use Rattle.prefix_records.specs.Tiling.{number_of, Bits}
use Rattle.asmap_codes.proofs.BitLaws.{halved}
use Rattle.asmap_shapes.specs.Shape.{Shape, Leaf, Fork, pick, join, shape}

-- ---- what is said of a shape

-- how many JUMPs stand above a RETURN at most
abbrev pub depth : Shape → ℕ
depth (Leaf n) = 0
depth (Fork t u) = suc (max (depth t) (depth u))

-- every number in it holds
abbrev pub Each : (ℕ → Type 0) → Shape → Type 0
Each P (Leaf n) = P n
Each P (Fork t u) = Each P t × Each P u

-- the number that an address finds, from its bit u on; a gives its bits
unfoldable pub found : (ℕ → ℕ) → Shape → ℕ → ℕ
found a (Leaf n) u = n
found a (Fork t v) u = cond (eqb (a u) 1) (found a v (suc u)) (found a t (suc u))

half : (a k : ℕ) → a / 2 ^ k / 2 ≡ a / 2 ^ suc k
half a k = let e : k + 1 ≡ suc k = omega arith in halved a k ∙ ap (λ (i : ℕ). a / 2 ^ i) e

-- ---- two halves put together

pub leaf_same : {a b : ℕ} → Leaf a ≡ Leaf b → a ≡ b
leaf_same {a} {b} e = cc

leaf_fork : {a : ℕ} {t u : Shape} {A : Type 0} → Fork t u ≡ Leaf a → A
leaf_fork e = let z : ◌≡◌ {A = ℕ} 0 1 = cc in absurd (omega arith)

-- what is one number had two halves of that number
pub join-leaf : (t u : Shape) (n : ℕ) → join t u ≡ Leaf n → (t ≡ Leaf n) × (u ≡ Leaf n)
unfolding pick
join-leaf (Leaf a) (Leaf b) n e = go (eqb a b) refl e
  where
    go : (x : Bool) → eqb a b ≡ x → pick x (Leaf a) (Fork (Leaf a) (Leaf b)) ≡ Leaf n → (Leaf a ≡ Leaf n) × (Leaf b ≡ Leaf n)
    go true q e = (e, ap Leaf (sym (eqb-true a b q)) ∙ e)
    go false q e = leaf_fork e
join-leaf (Leaf a) (Fork t u) n e = leaf_fork e
join-leaf (Fork t u) v n e = leaf_fork e

-- two halves of one number are that number
pub join_same : (n : ℕ) → join (Leaf n) (Leaf n) ≡ Leaf n
unfolding pick
join_same n = rw (eq-eqb n n refl)

-- any law of a Fork and of two equal numbers is one of the halves put together
pub join_law : (P : Shape → Type 0) (t u : Shape) → P (Fork t u) → ((n : ℕ) → t ≡ Leaf n → u ≡ Leaf n → P (Leaf n)) → P (join t u)
unfolding pick
join_law P (Leaf a) (Leaf b) h k = go (eqb a b) refl
  where
    go : (x : Bool) → eqb a b ≡ x → P (pick x (Leaf a) (Fork (Leaf a) (Leaf b)))
    go true q = k a refl (ap Leaf (sym (eqb-true a b q)))
    go false q = h
join_law P (Leaf a) (Fork t u) h k = h
join_law P (Fork t u) v h k = h

module _ (f : ℕ → ℕ) where
  -- where all addresses of the subtree have one number, RETURN
  pub all-leaf : (k p n : ℕ) → ((a : ℕ) → a / 2 ^ k ≡ p → f a ≡ n) → shape f k p ≡ Leaf n
  unfolding shape
  all-leaf zero p n h = ap Leaf (h p (omega arith))
  all-leaf (suc k) p n h =
      let low = all-leaf k (2 * p) n (λ a e. h a (sym (half a k) ∙ omega arith)) in
      let high = all-leaf k (2 * p + 1) n (λ a e. h a (sym (half a k) ∙ omega arith)) in
      rw (low, high) (join_same n)

  -- where RETURN, all addresses of the subtree have its number
  pub leaf_all : (k p n : ℕ) → shape f k p ≡ Leaf n → (a : ℕ) → a / 2 ^ k ≡ p → f a ≡ n
  unfolding shape
  leaf_all zero p n e a h = let q : a ≡ p = omega arith in ap f q ∙ leaf_same e
  leaf_all (suc k) p n e a h =
      let both = join-leaf (shape f k (2 * p)) (shape f k (2 * p + 1)) n e in
      let c : a / 2 ^ k / 2 ≡ p = half a k ∙ h in
      side (eqb (a / 2 ^ k) (2 * p)) refl (λ q. leaf_all k (2 * p) n both.0 a q) (λ q. leaf_all k (2 * p + 1) n both.1 a q) c
    where
      side : (x : Bool) → eqb (a / 2 ^ k) (2 * p) ≡ x → (a / 2 ^ k ≡ 2 * p → f a ≡ n) → (a / 2 ^ k ≡ 2 * p + 1 → f a ≡ n) → a / 2 ^ k / 2 ≡ p → f a ≡ n
      side true q l r c = l (eqb-true _ _ q)
      side false q l r c = r (omega (arith, eqb-false (a / 2 ^ k) (2 * p) q))

  -- no JUMP is below the last address bit
  pub depth-shape : (k p : ℕ) → depth (shape f k p) ≤ k
  unfolding shape
  depth-shape zero p = omega arith
  depth-shape (suc k) p =
      let a = depth-shape k (2 * p) in
      let b = depth-shape k (2 * p + 1) in
      join_law (λ (t : Shape). depth t ≤ suc k) (shape f k (2 * p)) (shape f k (2 * p + 1)) (omega arith) (λ n e q. omega arith)

  -- its numbers are numbers of addresses
  pub each-shape : (P : ℕ → Type 0) → ((a : ℕ) → P (f a)) → (k p : ℕ) → Each P (shape f k p)
  unfolding shape
  each-shape P h zero p = h p
  each-shape P h (suc k) p =
      let a = each-shape P h k (2 * p) in
      join_law (Each P) (shape f k (2 * p)) (shape f k (2 * p + 1)) (a, each-shape P h k (2 * p + 1))
      (λ n e q. rw e at a)

  module _ (a : ℕ → ℕ) (bits : Bits a) where
    found-join : (t v : Shape) (u : ℕ) → found a (join t v) u ≡ found a (Fork t v) u
    unfolding found
    found-join t v u =
        join_law (λ (x : Shape). found a x u ≡ found a (Fork t v) u) t v refl
        λ n e q. rw (e, q) (same (eqb (a u) 1) n)
      where
        same : (x : Bool) (n : ℕ) → n ≡ cond x n n
        same true n = refl
        same false n = refl

    -- what an address finds, from its bit u on, is its number
    found_from : (k u : ℕ) → found a (shape f k (number_of a u)) u ≡ f (number_of a (k + u))
    unfolding shape found number_of
    found_from zero u = let e : u ≡ 0 + u = omega arith in ap (λ (i : ℕ). f (number_of a i)) e
    found_from (suc k) u =
        found-join (shape f k (2 * number_of a u)) (shape f k (2 * number_of a u + 1)) u
        ∙ go (eqb (a u) 1) refl (found_from k (suc u)) ∙ ap (λ (i : ℕ). f (number_of a i)) e
      where
        e : k + suc u ≡ suc k + u
        e = omega arith

        go : (x : Bool) → eqb (a u) 1 ≡ x
            → found a (shape f k (2 * number_of a u + a u)) (suc u) ≡ f (number_of a (k + suc u))
            → cond (eqb (a u) 1) (found a (shape f k (2 * number_of a u + 1)) (suc u)) (found a (shape f k (2 * number_of a u)) (suc u)) ≡ f (number_of a (k + suc u))
        go true q h = let b : a u ≡ 1 = eqb-true _ _ q in rw q (rw b at h)
        go false q h =
            let b = bits u in
            let z : 2 * number_of a u + a u ≡ 2 * number_of a u = omega (arith, eqb-false (a u) 1 q) in
            rw q (rw z at h)

    -- from its first bit on
    pub found-shape : (w : ℕ) → found a (shape f w 0) 0 ≡ f (number_of a w)
    unfolding number_of
    found-shape w = let e : w + 0 ≡ w = omega arith in found_from w 0 ∙ ap (λ (i : ℕ). f (number_of a i)) e

-- ---- the width

-- functions that agree have the same tree
pub shape_same : (f g : ℕ → ℕ) → ((a : ℕ) → f a ≡ g a) → (k p : ℕ) → shape f k p ≡ shape g k p
unfolding shape
shape_same f g h zero p = ap Leaf (h p)
shape_same f g h (suc k) p = ap₂ join (shape_same f g h k (2 * p)) (shape_same f g h k (2 * p + 1))

-- address bits that do not matter make no difference
pub shape_scaled : (f : ℕ → ℕ) (j k p : ℕ) → shape (λ (a : ℕ). f (a / 2 ^ j)) (k + j) p ≡ shape f k p
unfolding shape
shape_scaled f j zero p = let e : 0 + j ≡ j = omega arith in rw e (all-leaf (λ (a : ℕ). f (a / 2 ^ j)) j p (f p) (λ a q. ap f q))
shape_scaled f j (suc k) p = let e : suc k + j ≡ suc (k + j) = omega arith in rw e (ap₂ join (shape_scaled f j k (2 * p)) (shape_scaled f j k (2 * p + 1)))
