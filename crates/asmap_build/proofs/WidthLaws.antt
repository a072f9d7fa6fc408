-- The width: a list of no prefix longer than w says the same of addresses of w bits as of those of 128, and makes the same tree. So one pass over
-- 128 bits is enough. Assumes nothing.
use Prim.Native.Nat.{ℕ, zero, suc, ◌+◌, ◌-◌, ◌*◌, ◌/◌, ◌^◌, ◌≤◌, ◌<◌}
use mathlib.Core.Bool.{Bool, true, false, ◌&&◌}
use mathlib.Core.Path.{◌≡◌, refl, sym, ap, ap₂, ◌∙◌}
use native.Mathlib.Omega.{arith}
use native.Mathlib.Nat.{mod-lt, mul-le-mul_right, add-mul, one-mul}
use lib.Pow as pow
use lib.Dec.{leb, ltb}
use borrow.Author.Tests.{le-leb, lt-leb, lt-ltb, le-ltb, ltb-true, ltb-false}
use Rattle.prefix_records.specs.Tiling.{Piece, first_of, past_of, holds}
use Rattle.prefix_records.proofs.TilingLaws.{wider}
use Rattle.prefix_lists.specs.List.{number_at}
use Rattle.asmap_shapes.specs.Shape.{shape}
use Rattle.asmap_shapes.proofs.ShapeLaws.{shape_same, shape_scaled}

module _ (a j : ℕ) where
  -- a lies from a multiple of 2 ^ j on, and before the next
  between : (a / 2 ^ j * 2 ^ j ≤ a) × (a < (a / 2 ^ j + 1) * 2 ^ j)
  between =
      let s = pow.split a j in
      let l = mod-lt a (pow.pow_pos j) in
      let m = add-mul (a / 2 ^ j) 1 (2 ^ j) in
      let o = one-mul (2 ^ j) in
      (omega (arith, s), omega (arith, s, l, m, o))

  below_scaled : (z : ℕ) → ltb a (z * 2 ^ j) ≡ ltb (a / 2 ^ j) z
  below_scaled z = go (ltb (a / 2 ^ j) z) refl
    where
      go : (b : Bool) → ltb (a / 2 ^ j) z ≡ b → ltb a (z * 2 ^ j) ≡ b
      go true e =
          let h : a / 2 ^ j + 1 ≤ z = omega (arith, ltb-true (a / 2 ^ j) z e) in
          lt-ltb a (z * 2 ^ j) (omega (arith, between.1, mul-le-mul_right (2 ^ j) h))
      go false e = le-ltb a (z * 2 ^ j) (omega (arith, between.0, mul-le-mul_right (2 ^ j) (ltb-false (a / 2 ^ j) z e)))

  from_scaled : (y : ℕ) → leb (y * 2 ^ j) a ≡ leb y (a / 2 ^ j)
  from_scaled y = go (ltb (a / 2 ^ j) y) refl
    where
      go : (b : Bool) → ltb (a / 2 ^ j) y ≡ b → leb (y * 2 ^ j) a ≡ leb y (a / 2 ^ j)
      go true e =
          let l = ltb-true (a / 2 ^ j) y e in
          let h : a / 2 ^ j + 1 ≤ y = omega (arith, l) in
          lt-leb (y * 2 ^ j) a (omega (arith, between.1, mul-le-mul_right (2 ^ j) h)) ∙ sym (lt-leb y (a / 2 ^ j) l)
      go false e =
          let l = ltb-false (a / 2 ^ j) y e in
          le-leb (y * 2 ^ j) a (omega (arith, between.0, mul-le-mul_right (2 ^ j) l)) ∙ sym (le-leb y (a / 2 ^ j) l)

module _ (w v : ℕ) (h : w ≤ v) where
  -- a prefix holds an address of v bits where it holds its first w bits
  holds_scaled : (p : Piece) → p.length ≤ w → (a : ℕ) → holds v a p ≡ holds w (a / 2 ^ (v - w)) p
  holds_scaled p k a =
      ap₂ ◌&&◌
      (ap (λ (x : ℕ). leb x a) (wider w v p.prefix p.length k h) ∙ from_scaled a (v - w) (first_of w p))
      (ap (ltb a) (wider w v (p.prefix + 1) p.length k h) ∙ below_scaled a (v - w) (past_of w p))

  pub number_scaled : (ps : ℕ → Piece) (given n : ℕ) → ((i : ℕ) → i < n → (ps i).length ≤ w) → (a : ℕ)
      → number_at v ps given n a ≡ number_at w ps given n (a / 2 ^ (v - w))
  unfolding number_at
  number_scaled ps given zero s a = refl
  number_scaled ps given (suc n) s a =
      rw (holds_scaled (ps n) (s n (omega arith)) a, number_scaled ps given n (λ i g. s i (omega arith)) a)

  -- a list of no prefix longer than w makes the same tree over v bits as over w
  pub same_at_width : (ps : ℕ → Piece) (given n : ℕ) → ((i : ℕ) → i < n → (ps i).length ≤ w)
      → shape (number_at v ps given n) v 0 ≡ shape (number_at w ps given n) w 0
  same_at_width ps given n s =
      let e : v ≡ w + (v - w) = omega arith in
      shape_same (number_at v ps given n) (λ (a : ℕ). number_at w ps given n (a / 2 ^ (v - w))) (number_scaled ps given n s) v 0
      ∙ ap (λ (i : ℕ). shape (λ (a : ℕ). number_at w ps given n (a / 2 ^ (v - w))) i 0) e
      ∙ shape_scaled (number_at w ps given n) (v - w) w 0
