-- What a call at a width comes to, where it is one and where it is none.
-- Assumes nothing.
use Prim.Native.Nat.{ℕ, ◌*◌, ◌/◌, ◌≤◌}
use mathlib.Core.Bool.{Bool, true, false, ◌||◌}
use mathlib.Core.Path.{◌≡◌, refl, ap}
use mathlib.Core.Logic.{◌⊎◌, inl, inr, ◌≢◌}
use native.Mathlib.Omega.{arith}
use lib.Dec.{eqb}
use borrow.Author.Tests.{ne_eqb, eqb-true}
use Rattle.asmap_program.specs.Widths.{is_width, at_width}
use Rattle.refusals.specs.declared.Refusal.{Refusal}
use Rattle.refusals.specs.declared.Refusal.TheVariants as refusal

pub at_width_lem : {A : Type 0} (w : ℕ) (refused : Refusal → A) (answer : A) → is_width w ≡ true → at_width w refused answer ≡ answer
unfolding at_width
at_width_lem w refused answer e = rw e

pub no_width : {A : Type 0} (w : ℕ) (refused : Refusal → A) (answer : A) → is_width w ≡ false → at_width w refused answer ≡ refused refusal.Width
unfolding at_width
no_width w refused answer e = rw e

-- both widths are one; and there is no third
pub a_width : (w : ℕ) → (w ≡ 32) ⊎ (w ≡ 128) → is_width w ≡ true
a_width w (inl e) = ap is_width e
a_width w (inr e) = ap is_width e

pub which_width : (w : ℕ) → is_width w ≡ true → (w ≡ 32) ⊎ (w ≡ 128)
which_width w e = go (eqb w 32) refl (eqb w 128) refl e
  where
    go : (b : Bool) → eqb w 32 ≡ b → (c : Bool) → eqb w 128 ≡ c → (b || c) ≡ true → (w ≡ 32) ⊎ (w ≡ 128)
    go true p c q h = inl (eqb-true w 32 p)
    go false p true q h = inr (eqb-true w 128 q)
    go false p false q h = let z : ◌≡◌ {A = ℕ} 0 1 = cc in absurd (omega arith)

pub neither_width : (w : ℕ) → w ≢ 32 → w ≢ 128 → is_width w ≡ false
neither_width w h k = rw (ne_eqb w 32 h, ne_eqb w 128 k)

-- no address is longer than the longest
pub narrow : (w : ℕ) → is_width w ≡ true → w ≤ 128
narrow w e = go (which_width w e)
  where
    go : (w ≡ 32) ⊎ (w ≡ 128) → w ≤ 128
    go (inl h) = omega arith
    go (inr h) = omega arith

-- and both are whole bytes
pub whole-bytes : (w : ℕ) → is_width w ≡ true → 8 * (w / 8) ≡ w
whole-bytes w e = go (which_width w e)
  where
    go : (w ≡ 32) ⊎ (w ≡ 128) → 8 * (w / 8) ≡ w
    go (inl h) = omega arith
    go (inr h) = omega arith
