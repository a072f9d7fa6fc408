-- The first byte of an address in a range is the range's own. So an address with a first byte that no row has lies in none.
-- Assumes nothing.
use Prim.Native.Nat.{ℕ, zero, suc, ◌-◌, ◌/◌, ◌%◌}
use mathlib.Core.Bool.{Bool, true, false, cond, not, ◌&&◌}
use mathlib.Core.List.{List, [], ◌∷◌}
use mathlib.Core.Path.{◌≡◌, ◌∙◌, refl, sym, ap}
use borrow.Author.Tests.{eqb-true}
use lib.Dec.{eqb, ltb}
use Rattle.netaddr_ranges.specs.Prefix.{Range, byte, same_bytes, within}
use Rattle.netaddr_ranges.specs.Ranges.{Row, ipv6_rows}
use Rattle.netaddr_ranges.specs.Unroutable.{decided, unroutable16}
use Rattle.netaddr_ranges.proofs.Truth.{both_left, passed}

first_same : (k : ℕ) (p a : List ℕ) → same_bytes (suc k) p a ≡ true → byte 0 a ≡ byte 0 p
first_same zero p a h = eqb-true (byte 0 a) (byte 0 p) h
first_same (suc k) p a h = first_same k p a (both_left (same_bytes (suc k) p a) _ h)

whole-bytes : (t x y : Bool) → cond t x (x && y) ≡ true → x ≡ true
whole-bytes true x y h = h
whole-bytes false x y h = both_left x y h

-- of a range of at least eight bits
pub begins : (r : Range) (a : List ℕ) → r.bits / 8 ≡ suc (r.bits / 8 - 1) → within r a ≡ true → byte 0 a ≡ byte 0 r.first
begins r a e h =
    first_same (r.bits / 8 - 1) r.first a (sym (ap (λ k. same_bytes k r.first a) e) ∙ whole-bytes (eqb (r.bits % 8) 0) _ _ h)

-- by a test that the range's first byte fails and the address's passes
at_once : (f : ℕ → Bool) (r : Range) (a : List ℕ) (t : Bool) → t ≡ within r a → r.bits / 8 ≡ suc (r.bits / 8 - 1) → f (byte 0 r.first) ≡ false → f (byte 0 a) ≡ true → t ≡ false
at_once f r a false q e o h = refl
at_once f r a true q e o h = sym h ∙ (ap f (begins r a e (sym q)) ∙ o)

pub apart : (f : ℕ → Bool) (r : Range) (a : List ℕ) → r.bits / 8 ≡ suc (r.bits / 8 - 1) → f (byte 0 r.first) ≡ false → f (byte 0 a) ≡ true → within r a ≡ false
apart f r a e o h = at_once f r a (within r a) refl e o h

-- the first bytes that no row has: 02 to fb but for 20 and 3f
abbrev pub ordinary : ℕ → Bool
ordinary x = ltb 1 x && ltb x 0xfc && not (eqb x 0x20) && not (eqb x 0x3f)

-- every row has at least eight bits, and another first byte
abbrev Marked : List Row → Type 0
Marked [] = Unit {0}
Marked (r ∷ rs) = ((r.range.bits / 8 ≡ suc (r.range.bits / 8 - 1)) × (ordinary (byte 0 r.range.first) ≡ false)) × Marked rs

in_no-row : (rs : List Row) (a : List ℕ) → Marked rs → ordinary (byte 0 a) ≡ true → decided rs a ≡ false
unfolding decided
in_no-row [] a m h = refl
in_no-row (r ∷ rs) a m h =
    passed _ _ _ (apart ordinary r.range a m.0.0 m.0.1 h) ∙ in_no-row rs a m.1 h

pub ordinary_routable : (a : List ℕ) → ordinary (byte 0 a) ≡ true → unroutable16 a ≡ false
unfolding unroutable16
ordinary_routable a h = in_no-row ipv6_rows a ((refl, refl), ((refl, refl), ((refl, refl), ((refl, refl), ((refl, refl), ((refl, refl), ((refl, refl), ((refl, refl), ((refl, refl), ((refl, refl), ((refl, refl), ((refl, refl), ((refl, refl), ((refl, refl), ((refl, refl), ((refl, refl), ((refl, refl), ((refl, refl), tt)))))))))))))))))) h
