-- Whether a record fits: tested step by step as code does, and what follows for the address behind it. 2 ^ 128 is a variable where a sum with it
-- occurs. Assumes nothing.
use Prim.Native.Nat.{ℕ, zero, suc, ◌+◌, ◌-◌, ◌*◌, ◌/◌, ◌%◌, ◌^◌, ◌≤◌, ◌<◌, zero-le}
use mathlib.Core.Bool.{Bool, true, false, false≢true, not, ◌&&◌, ◌||◌}
use mathlib.Core.Path.{◌≡◌, refl, sym, ap, subst, ◌∙◌}
use mathlib.Core.List.{List}
use native.Mathlib.Nat.{suc-mul, add-mul, mul-le-mul_right, lt_of_mul-lt-mul_right, mod-eq_of_lt, mod_self, div-add-mod'}
use native.Mathlib.Numerals.{add-one}
use native.Mathlib.Omega.{arith}
use lib.Dec.{eqb, ltb, leb}
use lib.ListN.{get_or}
use lib.Pow as pow
use borrow.Author.Tests.{eqb-true, leb-true, ltb-true, ltb-false, ne_eqb, eq-eqb, le-leb, lt-leb}
use Rattle.prefix_records.specs.declared.Address.{Address}
use Rattle.prefix_records.specs.models.Cursor.{value_of, Behind}
use Rattle.prefix_records.specs.Tiling.{first_of, past_of}
use Rattle.prefix_records.proofs.TilingLaws.{some}
use Rattle.prefix_lists.specs.List.{address_at, length_at, piece_at, zeros_at, earliest, fits}
use Rattle.prefix_lists.specs.models.End.{Ends, may_begin}
use Rattle.prefix_lists.proofs.BigLaws.{big-below}

-- a list of bytes
abbrev pub Bytes : List ℕ → Type 0
Bytes l = (i : ℕ) → get_or l i 0 < 256

-- ---- a record with zeros past its prefix

-- the record's address is the first of its prefix
abbrev pub Clean : List ℕ → ℕ → Type 0
Clean l i = address_at l i % 2 ^ (128 - length_at l i) ≡ 0

-- an address of 16 bytes is below 2 ^ 128
pub address_below : (l : List ℕ) (i : ℕ) → Bytes l → address_at l i < 2 ^ 128
address_below l i h = big-below 16 l (24 * i) h

-- a multiple of p, and the next one
whole : (x p : ℕ) → x % p ≡ 0 → x / p * p ≡ x
whole x p z = omega (arith, div-add-mod' x p, z)

whole_past : (x p : ℕ) → x % p ≡ 0 → (x / p + 1) * p ≡ x + p
whole_past x p z = omega (arith, whole x p z, add-mul (x / p) 1 p)

-- over t for 2 ^ 128, a multiple of the prefix's addresses
whole_top : (t m p x : ℕ) → t ≡ m * p → x < t → x % p ≡ 0 → x + p ≤ t
whole_top t m p x e h z =
    let s = whole x p z in
    let d : x / p * p < m * p = omega (arith, s, e, h) in
    let k = mul-le-mul_right p (lt_of_mul-lt-mul_right p d) in
    omega (arith, k, suc-mul (x / p) p, s, e)

-- the first address of its prefix, and the one behind it
pub clean-first : (l : List ℕ) (i : ℕ) → Clean l i → first_of 128 (piece_at l i) ≡ address_at l i
unfolding piece_at
clean-first l i z = whole (address_at l i) (2 ^ (128 - length_at l i)) z

pub clean_past : (l : List ℕ) (i : ℕ) → Clean l i → past_of 128 (piece_at l i) ≡ address_at l i + 2 ^ (128 - length_at l i)
unfolding piece_at
clean_past l i z = whole_past (address_at l i) (2 ^ (128 - length_at l i)) z

-- a power of two is so many of a lesser one
split_power : (n k : ℕ) → k ≤ n → 2 ^ n ≡ 2 ^ (n - k) * 2 ^ k
split_power n k h =
    let e : n ≡ (n - k) + k = omega arith in
    ap (λ (m : ℕ). 2 ^ m) e ∙ pow.pow-add 2 (n - k) k

-- it ends with the last address or before
clean_end : (l : List ℕ) (i : ℕ) → Bytes l → Clean l i → address_at l i + 2 ^ (128 - length_at l i) ≤ 2 ^ 128
clean_end l i b z =
    whole_top (2 ^ 128) (2 ^ (128 - (128 - length_at l i))) (2 ^ (128 - length_at l i)) (address_at l i)
    (split_power 128 (128 - length_at l i) (omega arith)) (address_below l i b) z

-- so does its prefix
pub clean_inside : (l : List ℕ) (i : ℕ) → Bytes l → Clean l i → past_of 128 (piece_at l i) ≤ 2 ^ 128
clean_inside l i b z = subst (λ (n : ℕ). n ≤ 2 ^ 128) (sym (clean_past l i z)) (clean_end l i b z)

-- ---- the address behind a record, as code holds it

-- over t for 2 ^ 128 and s for the sum
behind-ends : (t s r : ℕ) → s ≤ t → (s < t → r ≡ s) → (s ≡ t → r ≡ 0) → r ≡ s % t
behind-ends t s r h f g = go (ltb s t) refl
  where
    go : (b : Bool) → ltb s t ≡ b → r ≡ s % t
    go true e = let k = ltb-true s t e in f k ∙ sym (mod-eq_of_lt k)
    go false e =
        let k : s ≡ t = omega (arith, h, ltb-false s t e) in
        g k ∙ sym (ap (λ (n : ℕ). n % t) k ∙ mod_self t)

-- before the first record
pub ends_start : (l : List ℕ) → Ends (earliest l 0) (record { high = 0; low = 0 })
ends_start l = (refl, zero-le)

-- behind a record
pub ends_next : (l : List ℕ) (i : ℕ) (a r : Address) → Bytes l → Clean l i → value_of a ≡ address_at l i → Behind a (length_at l i) r
    → Ends (earliest l (i + 1)) r
ends_next l i a r b z e h =
    let p = ap (λ (n : ℕ). n + 2 ^ (128 - length_at l i)) e in
    let k : Ends (address_at l i + 2 ^ (128 - length_at l i)) r = (
      behind-ends (2 ^ 128) (address_at l i + 2 ^ (128 - length_at l i)) (value_of r) (clean_end l i b z)
          (λ s. h.0 (subst (λ (n : ℕ). n < 2 ^ 128) (sym p) s) ∙ p)
          (λ s. h.2 (p ∙ s)),
      clean_end l i b z,
    ) in
    let q : Ends (earliest l (suc i)) r = subst (λ (n : ℕ). Ends n r) (sym (clean_past l i z)) k in
    subst (λ (n : ℕ). Ends (earliest l n) r) (sym (add-one i)) q

-- ---- where a record may begin

-- over t for 2 ^ 128: behind a record
begin-later : (t e v x : ℕ) → v ≡ e % t → e ≤ t → x < t → 0 < e → (not (eqb v 0) && leb v x) ≡ leb e x
begin-later t e v x m h k z = go (ltb e t) refl
  where
    go : (b : Bool) → ltb e t ≡ b → (not (eqb v 0) && leb v x) ≡ leb e x
    go true d =
        let s : v ≡ e = m ∙ mod-eq_of_lt (ltb-true e t d) in
        rw (ne_eqb v 0 (λ y. omega (arith, s, z, y)), s)
    go false d =
        let s : e ≡ t = omega (arith, h, ltb-false e t d) in
        let y : v ≡ 0 = m ∙ ap (λ (n : ℕ). n % t) s ∙ mod_self t in
        rw (eq-eqb v 0 y, lt-leb e x (omega (arith, s, k)))

-- what code tests is what is asked
pub may_begin_at : (l : List ℕ) (i : ℕ) (a : Address) (x : ℕ) → Ends (earliest l i) a → x < 2 ^ 128 → may_begin i (value_of a) x ≡ leb (earliest l i) x
may_begin_at l zero a x h k = sym (le-leb 0 x (omega arith))
may_begin_at l (suc i) a x h k =
    ap (λ (b : Bool). b || (not (eqb (value_of a) 0) && leb (value_of a) x)) (ne_eqb (suc i) 0 (λ e. omega (arith, e)))
    ∙ begin-later (2 ^ 128) (earliest l (suc i)) (value_of a) x h.0 h.1 k (omega (arith, some 128 (piece_at l i)))

-- ---- the tests

-- all the tests at once, as code makes them
pub fits_tests : (w : ℕ) (l : List ℕ) (i : ℕ) (a end : Address) → Bytes l → value_of a ≡ address_at l i → Ends (earliest l i) end
    → (leb (length_at l i) w && zeros_at l i && eqb (value_of a % 2 ^ (128 - length_at l i)) 0 && may_begin i (value_of end) (value_of a)) ≡ fits w l i
unfolding fits
fits_tests w l i a end b e h = rw (e, may_begin_at l i end (address_at l i) h (address_below l i b))

-- two tests that hold together
pub and-true : (a b : Bool) → (a && b) ≡ true → (a ≡ true) × (b ≡ true)
and-true true b h = (refl, h)
and-true false b h = absurd (false≢true h)

-- what a record that fits has
pub record Fitting (w : ℕ) (l : List ℕ) (i : ℕ) : Type 0 where
  pub short : length_at l i ≤ w
  pub zeros : zeros_at l i ≡ true
  pub clean : Clean l i
  pub behind : earliest l i ≤ address_at l i

-- it has them all
pub fitting : (w : ℕ) (l : List ℕ) (i : ℕ) → fits w l i ≡ true → Fitting w l i
unfolding fits
fitting w l i h =
    let a = and-true _ _ h in
    let b = and-true _ _ a.0 in
    let d = and-true _ _ b.0 in
    record { short = leb-true (length_at l i) w d.0; zeros = d.1; clean = eqb-true (address_at l i % 2 ^ (128 - length_at l i)) 0 b.1; behind = leb-true (earliest l i) (address_at l i) a.1 }
