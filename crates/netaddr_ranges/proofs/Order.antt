-- Rows that all say unroutable, asked in order, are one `||` of their tests, also when it is joined from the left. Assumes nothing.
use Prim.Native.Nat.{ℕ}
use mathlib.Core.Bool.{Bool, false, cond, ◌||◌, or_assoc, or-false}
use mathlib.Core.List.{List, [], ◌∷◌, ◌++◌}
use mathlib.Core.Path.{◌≡◌, ◌∙◌, refl, sym, ap}
use Rattle.netaddr_ranges.specs.Prefix.{Range, within}
use Rattle.netaddr_ranges.specs.Ranges.{Row, Follows, unroutable}
use Rattle.netaddr_ranges.specs.Unroutable.{in_some, verdict, decided}
use Rattle.netaddr_ranges.proofs.Truth.{choose-true}

-- the tests of ranges joined from the left, as `a | b | c` is
abbrev pub joined : Bool → List Range → List ℕ → Bool
joined t [] a = t
joined t (r ∷ rs) a = joined (t || within r a) rs a

joined_or : (t : Bool) (rs : List Range) (a : List ℕ) → joined t rs a ≡ (t || in_some rs a)
joined_or t [] a = sym (or-false t)
joined_or t (r ∷ rs) a = joined_or (t || within r a) rs a ∙ or_assoc t (within r a) (in_some rs a)

pub joined-some : (rs : List Range) (a : List ℕ) → joined false rs a ≡ in_some rs a
joined-some rs a = joined_or false rs a

-- every row says unroutable
abbrev pub Plain : List Row → Type 0
Plain [] = Unit {0}
Plain (r ∷ rs) = (r.follows ≡ unroutable) × Plain rs

abbrev pub ranges : List Row → List Range
ranges [] = []
ranges (r ∷ rs) = r.range ∷ ranges rs

plain_row : (t : Bool) (f : Follows) (a : List ℕ) (d : Bool) → f ≡ unroutable → cond t (verdict f a) d ≡ (t || d)
plain_row t f a d e = ap (λ g. cond t (verdict g a) d) e ∙ choose-true t d

plain-decided : (rs : List Row) (a : List ℕ) → Plain rs → decided rs a ≡ in_some (ranges rs) a
unfolding decided
plain-decided [] a h = refl
plain-decided (r ∷ rs) a h =
    plain_row (within r.range a) r.follows a (decided rs a) h.0 ∙ ap (λ t. within r.range a || t) (plain-decided rs a h.1)

pub joined-decided : (rs : List Row) (a : List ℕ) → Plain rs → joined false (ranges rs) a ≡ decided rs a
joined-decided rs a h = joined-some (ranges rs) a ∙ sym (plain-decided rs a h)

-- rows that say unroutable, then others
pub plain_then : (rs ss : List Row) (a : List ℕ) → Plain rs → decided (rs ++ ss) a ≡ (decided rs a || decided ss a)
unfolding decided
plain_then [] ss a h = refl
plain_then (r ∷ rs) ss a h =
    plain_row (within r.range a) r.follows a (decided (rs ++ ss) a) h.0
    ∙ (ap (λ t. within r.range a || t) (plain_then rs ss a h.1)
    ∙ (sym (or_assoc (within r.range a) (decided rs a) (decided ss a))
    ∙ ap (λ t. t || decided ss a) (sym (plain_row (within r.range a) r.follows a (decided rs a) h.0))))
