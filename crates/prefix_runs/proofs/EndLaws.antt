-- Addresses in halves, and ends of which the one behind all addresses is held as 0. 2 ^ 128 is a variable where numbers are compared with it.
-- Assumes nothing.
use Prim.Native.Nat.{ℕ, zero, suc, ◌+◌, ◌*◌, ◌/◌, ◌^◌, ◌≤◌, ◌<◌}
use mathlib.Core.Bool.{Bool, true, false}
use mathlib.Core.Path.{◌≡◌, refl, sym, ap, ◌∙◌}
use mathlib.Core.Logic.{◌≢◌}
use native.Mathlib.Nat.{suc-mul, mul-le-mul_right}
use native.Mathlib.Omega.{arith}
use lib.Dec.{eqb, ltb}
use lib.Pow.{high, pow_pos}
use borrow.Author.Tests.{eqb-true, eqb-false, eq-eqb, ne_eqb, ltb-true, ltb-false}
use Rattle.prefix_records.specs.declared.Address.{Address}
use Rattle.prefix_records.specs.models.Cursor.{value_of}
use Rattle.prefix_runs.specs.models.Pieces.{top}

-- ---- addresses in halves

-- with one upper half, addresses are one where the lower halves are
pub one_high : (a b : Address) → a.high ≡ b.high → eqb a.low b.low ≡ eqb (value_of a) (value_of b)
one_high a b e = go (eqb a.low b.low) refl
  where
    go : (t : Bool) → eqb a.low b.low ≡ t → t ≡ eqb (value_of a) (value_of b)
    go true f = let g = eqb-true a.low b.low f in sym (eq-eqb (value_of a) (value_of b) (omega (arith, e, g)))
    go false f = sym (ne_eqb (value_of a) (value_of b) (λ h. eqb-false a.low b.low f (omega (arith, h, e))))

-- with different upper halves they are not
pub two_highs : (a b : Address) → a.low < 2 ^ 64 → b.low < 2 ^ 64 → a.high ≢ b.high → false ≡ eqb (value_of a) (value_of b)
two_highs a b r s d =
    sym (ne_eqb (value_of a) (value_of b) (λ h. d (sym (high a.high 64 r) ∙ ap (λ (v : ℕ). v / 2 ^ 64) h ∙ high b.high 64 s)))

-- halves below b make a number below b * b
below_square : (b h l : ℕ) → h < b → l < b → h * b + l < b * b
below_square b h l r s = omega (arith, mul-le-mul_right b r, suc-mul h b)

-- an address is below 2 ^ 128
pub address_below : (a : Address) → a.high < 2 ^ 64 → a.low < 2 ^ 64 → value_of a < 2 ^ 128
address_below a h k = below_square (2 ^ 64) a.high a.low h k

-- ---- ends

-- something lies below an end
pub end-some : (v : ℕ) → 0 < top v
unfolding top
end-some zero = pow_pos 128
end-some (suc v) = omega arith

-- an end that is an address
pub end_is : (v : ℕ) → 0 < v → top v ≡ v
unfolding top
end_is zero h = absurd (omega arith)
end_is (suc v) h = refl

-- the end of all addresses
pub end_all : top 0 ≡ 2 ^ 128
unfolding top
end_all = refl

-- v is held for the end x; t is 2 ^ 128
abbrev pub Held : ℕ → ℕ → ℕ → Type 0
Held t v x = (x < t → v ≡ x) × (x ≡ t → v ≡ 0)

-- an end that is not below 2 ^ 128 is 2 ^ 128
not_less : (t x : ℕ) → x ≤ t → ltb x t ≡ false → x ≡ t
not_less t x h e = omega (arith, ltb-false x t e)

-- the end for which an address is held is the one that it stands for
pub held_end : (v x : ℕ) → Held (2 ^ 128) v x → x ≤ 2 ^ 128 → 0 < x → top v ≡ x
held_end v x h k p = go (ltb x (2 ^ 128)) refl
  where
    go : (t : Bool) → ltb x (2 ^ 128) ≡ t → top v ≡ x
    go true e = let q = h.0 (ltb-true x (2 ^ 128) e) in ap top q ∙ end_is x p
    go false e = let q = not_less (2 ^ 128) x k e in ap top (h.1 q) ∙ end_all ∙ sym q

-- between x, held as v, and another end above it there is a gap: up to an address
gap_from : (t v x u : ℕ) → Held t v x → x ≤ u → v ≢ u → u < t → (x < u) × (v ≡ x)
gap_from t v x u h k d b = let e = h.0 (omega (arith, k, b)) in (less (eqb x u) refl e, e)
  where
    less : (s : Bool) → eqb x u ≡ s → v ≡ x → x < u
    less true f e = absurd (d (e ∙ eqb-true x u f))
    less false f e = omega (arith, eqb-false x u f, k)

-- up to the end of all addresses
gap_to_all : (t v x : ℕ) → Held t v x → x ≤ t → v ≢ 0 → (x < t) × (v ≡ x)
gap_to_all t v x h k d = go (ltb x t) refl
  where
    go : (s : Bool) → ltb x t ≡ s → (x < t) × (v ≡ x)
    go true e = let l = ltb-true x t e in (l, h.0 l)
    go false e = absurd (d (h.1 (not_less t x k e)))

-- and up to either
pub gap : (v x u : ℕ) → Held (2 ^ 128) v x → x ≤ top u → v ≢ u → u < 2 ^ 128 → (x < top u) × (v ≡ x)
unfolding top
gap v x zero h k d b = gap_to_all (2 ^ 128) v x h k d
gap v x (suc u) h k d b = gap_from (2 ^ 128) v x (suc u) h k d b
