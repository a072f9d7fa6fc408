-- Choices by a test, and the same written with `||`, `&&` and `not`. Assumes nothing.
use mathlib.Core.Bool.{Bool, true, false, cond, not, ◌&&◌, ◌||◌}
use mathlib.Core.Path.{◌≡◌, refl, ap}

-- what a choice gives, where its test is known
pub taken : (t x r : Bool) → t ≡ true → cond t x r ≡ x
taken t x r e = ap (λ b. cond b x r) e

pub passed : (t x r : Bool) → t ≡ false → cond t x r ≡ r
passed t x r e = ap (λ b. cond b x r) e

pub choose-true : (t r : Bool) → cond t true r ≡ (t || r)
choose-true true r = refl
choose-true false r = refl

-- two tests that lead to the same choice
pub choose_either : (s t x r : Bool) → cond s x (cond t x r) ≡ cond (s || t) x r
choose_either true t x r = refl
choose_either false t x r = refl

pub unless_both : (z u : Bool) → not (z && not u) ≡ (u || not z)
unless_both true true = refl
unless_both true false = refl
unless_both false true = refl
unless_both false false = refl

pub both_left : (s t : Bool) → (s && t) ≡ true → s ≡ true
both_left true t e = refl
both_left false t e = e

pub both_right : (s t : Bool) → (s && t) ≡ true → t ≡ true
both_right true t e = e
both_right false true e = refl
both_right false false e = e
