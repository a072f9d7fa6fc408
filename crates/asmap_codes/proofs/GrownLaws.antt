-- Sizes that grow by one: how many values they have, and where the ends of a row tell that they grow (grown_of); the zeros before a size.
-- Assumes nothing.
use mathlib.Core.Path.{◌≡◌, ◌∙◌, refl, sym, ap}
use mathlib.Core.Bool.{Bool, true, false, ◌&&◌}
use mathlib.Core.List.{List, [], ◌∷◌}
use Prim.Native.Nat.{ℕ, zero, suc, ◌+◌, ◌-◌, ◌^◌, ◌≤◌, ◌<◌}
use native.Mathlib.Nat.{pow-succ'}
use native.Mathlib.Decide.{dec_lt}
use native.Mathlib.Omega.{arith}
use borrow.Author.Tests.{lt-ltb, le-ltb, leb-true}
use lib.Dec.{leb}
use lib.ListN.{length, get_or}
use lib.Pow.{pow_mono}
use Rattle.asmap_codes.specs.Row.{span}
use Rattle.asmap_codes.specs.models.Grown.{slow, grown, stop_if, stops}

pub both : (a b : Bool) → (a && b) ≡ true → (a ≡ true) × (b ≡ true)
both true b e = (refl, e)
both false b e = let z : ◌≡◌ {A = ℕ} 0 1 = cc in absurd (omega arith)

pub stops_more : (i n : ℕ) → i + 1 < n → stops i n ≡ 1
stops_more i n h = ap stop_if (lt-ltb (i + 1) n h)

pub stops_last : (i n : ℕ) → n ≤ i + 1 → stops i n ≡ 0
stops_last i n h = ap stop_if (le-ltb (i + 1) n h)

pub stops_fit : (i n : ℕ) → i < n → i + stops i n ≤ n
stops_fit i n h = go (dec_lt (i + 1) n)
  where
    go : Dec (i + 1 < n) → i + stops i n ≤ n
    go (yes l) = omega (arith, stops_more i n l)
    go (no l) = omega (arith, stops_last i n (omega arith))

pub stops-suc : (i n : ℕ) → stops i n ≡ stops (suc i) (suc n)
stops-suc i n = go (dec_lt (i + 1) n)
  where
    go : Dec (i + 1 < n) → stops i n ≡ stops (suc i) (suc n)
    go (yes h) = stops_more i n h ∙ sym (stops_more (suc i) (suc n) (omega arith))
    go (no h) = stops_last i n (omega arith) ∙ sym (stops_last (suc i) (suc n) (omega arith))

pub pow_inverse : (a b : ℕ) → 2 ^ a < 2 ^ b → a < b
pow_inverse a b h = go (dec_lt a b)
  where
    go : Dec (a < b) → a < b
    go (yes l) = l
    go (no l) = absurd (omega (arith, pow_mono {i = b} {j = a} (omega arith)))

pub span_grown : (s n : ℕ) → span (grown s n) + 2 ^ s ≡ 2 ^ (s + n)
span_grown s zero = let e : s + 0 ≡ s = omega arith in rw e (omega arith)
span_grown s (suc n) =
    let e : s + suc n ≡ suc s + n = omega arith in
    rw e (omega (arith, span_grown (suc s) n, pow-succ' 2 s))

-- ---- what the ends of a row tell

last_bound : (s : ℕ) (ss : List ℕ) → slow (s ∷ ss) ≡ true → get_or (s ∷ ss) (length ss) 0 ≤ s + length ss
last_bound s [] h = omega arith
last_bound s (t ∷ ss) h =
    let b = both (leb t (suc s)) (slow (t ∷ ss)) h in
    omega (arith, last_bound t ss b.1, leb-true t (suc s) b.0)

grown_from : (s : ℕ) (ss : List ℕ) → slow (s ∷ ss) ≡ true → get_or (s ∷ ss) (length ss) 0 ≡ s + length ss → s ∷ ss ≡ grown s (suc (length ss))
grown_from s [] h e = refl
grown_from s (t ∷ ss) h e =
    let b = both (leb t (suc s)) (slow (t ∷ ss)) h in
    let q : t ≡ suc s = omega (arith, last_bound t ss b.1, leb-true t (suc s) b.0) in
    ap (◌∷◌ s) (grown_from t ss b.1 (omega arith) ∙ ap (λ (k : ℕ). grown k (suc (length ss))) q)

-- where the last size is as far above the first as the row is long, the sizes grow by one
pub grown_of : (ss : List ℕ) → 0 < length ss → slow ss ≡ true → get_or ss (length ss - 1) 0 ≡ get_or ss 0 0 + (length ss - 1) → ss ≡ grown (get_or ss 0 0) (length ss)
grown_of [] h l e = refl
grown_of (s ∷ ss) h l e =
    let k : suc (length ss) - 1 ≡ length ss = omega arith in
    grown_from s ss l (rw k at e)
