-- Addresses as numbers and by their bits: each number below 2 ^ w is an address, and an address lies in a piece exactly where its first bits
-- are the piece's prefix. So of an accepted map's listing, for each number below 2 ^ w.
-- Assumes nothing.
use Prim.Native.Nat.{ℕ, zero, suc, ◌+◌, ◌-◌, ◌*◌, ◌/◌, ◌%◌, ◌^◌, ◌≤◌, ◌<◌}
use mathlib.Core.Bool.{Bool, true, false, ◌&&◌}
use mathlib.Core.Path.{◌≡◌, refl, sym, ap, subst, ◌∙◌}
use mathlib.Core.List.{List, [], ◌∷◌}
use native.Mathlib.Nat.{mod-lt, div-eq_of_lt, div-div-eq-div-mul, div-one, pow-suc, mul-le-mul_right, mul_assoc, zero-add, suc-add}
use native.Mathlib.Omega.{arith}
use lib.Dec.{leb, ltb, eqb}
use lib.ListN.{length, get_or}
use lib.Pow.{pow_pos}
use borrow.Author.Tests.{lt-ltb, le-ltb, le-leb, lt-leb, ltb-true, ltb-false, eqb-true, eqb-false}
use Rattle.asmap_program.specs.Map.{Map, Laws, address_bit, bit_of}
use Rattle.asmap_program.specs.Check.{check}
use Rattle.asmap_program.specs.Walk.{walk}
use Rattle.prefix_records.specs.Tiling.{Piece, holds, JustOne, number_of, Bits}
use Rattle.asmap_listing.specs.Listing.{listing}
use Rattle.prefix_records.proofs.TilingLaws.{placed_in}
use Rattle.asmap_listing.proofs.ListingLaws.{listing-walks}
use Rattle.asmap_program.specs.Verdict.{Accepted}

-- the bits of an address of w bits that is given as a number
abbrev pub bits_of : ℕ → ℕ → ℕ → ℕ
bits_of w x u = bit_of x (w - suc u)

pub bits_are : (w x : ℕ) → Bits (bits_of w x)
bits_are w x u = mod-lt _ (omega arith)

pub bytes_are : (bytes : List ℕ) → Bits (address_bit bytes)
bytes_are bytes u = mod-lt _ (omega arith)

first-bits : (w x u : ℕ) → x < 2 ^ w → u ≤ w → number_of (bits_of w x) u ≡ x / 2 ^ (w - u)
unfolding number_of
first-bits w x zero h l =
    let e : w - 0 ≡ w = omega arith in
    sym (ap (λ (n : ℕ). x / 2 ^ n) e ∙ div-eq_of_lt h)
first-bits w x (suc u) h l =
    let e : w - u ≡ suc (w - suc u) = omega arith in
    let d : x / 2 ^ (w - u) ≡ x / 2 ^ (w - suc u) / 2 =
    ap (λ (n : ℕ). x / 2 ^ n) e ∙ ap (λ (n : ℕ). x / n) (pow-suc 2 (w - suc u)) ∙ sym (div-div-eq-div-mul x (2 ^ (w - suc u)) 2) in
    omega (arith, first-bits w x u h (omega arith))

pub number_again : (w x : ℕ) → x < 2 ^ w → number_of (bits_of w x) w ≡ x
number_again w x h =
    let e : w - w ≡ 0 = omega arith in
    first-bits w x w h (omega arith) ∙ ap (λ (n : ℕ). x / 2 ^ n) e ∙ div-one x

-- ---- behind the bytes of an address there are zeros

past_end : (bytes : List ℕ) (n : ℕ) → length bytes ≤ n → get_or bytes n 0 ≡ 0
past_end [] n h = refl
past_end (b ∷ bs) zero h = absurd (omega arith)
past_end (b ∷ bs) (suc n) h = past_end bs n (omega arith)

no_bit : (bytes : List ℕ) (u : ℕ) → 8 * length bytes ≤ u → address_bit bytes u ≡ 0
no_bit bytes u h =
    ap (λ (n : ℕ). bit_of n (7 - u % 8)) (past_end bytes (u / 8) (omega arith))
    ∙ ap (λ (n : ℕ). n % 2) (div-eq_of_lt (pow_pos (7 - u % 8)))

zeros-behind : (bytes : List ℕ) (w k : ℕ) → 8 * length bytes ≤ w → number_of (address_bit bytes) (k + w) ≡ number_of (address_bit bytes) w * 2 ^ k
unfolding number_of
zeros-behind bytes w zero h = ap (number_of (address_bit bytes)) (zero-add w) ∙ omega arith
zeros-behind bytes w (suc k) h =
    let n = number_of (address_bit bytes) w in
    ap (number_of (address_bit bytes)) (suc-add k w)
    ∙ omega (arith, no_bit bytes (k + w) (omega arith), zeros-behind bytes w k h, ap (λ (x : ℕ). n * x) (pow-suc 2 k), sym (mul_assoc n (2 ^ k) 2))

-- an address of w bits among those of v bits
pub number_wider : (bytes : List ℕ) (w v : ℕ) → w ≤ v → 8 * length bytes ≤ w → number_of (address_bit bytes) v ≡ number_of (address_bit bytes) w * 2 ^ (v - w)
number_wider bytes w v h l =
    let e : v ≡ v - w + w = omega arith in
    ap (number_of (address_bit bytes)) e ∙ zeros-behind bytes w (v - w) l

-- an address lies in a piece exactly where it begins with the prefix
pub begins : (a : ℕ → ℕ) → Bits a → (w : ℕ) (p : Piece) → p.length ≤ w
    → holds w (number_of a w) p ≡ eqb (number_of a p.length) p.prefix
begins a bits w p l = go (eqb n p.prefix) refl (ltb n p.prefix) refl
  where
    n : ℕ
    n = number_of a p.length

    k : ℕ
    k = 2 ^ (w - p.length)

    and-false : (b : Bool) → (b && false) ≡ false
    and-false true = refl
    and-false false = refl

    go : (b : Bool) → eqb n p.prefix ≡ b → (c : Bool) → ltb n p.prefix ≡ c → holds w (number_of a w) p ≡ eqb n p.prefix
    go true e c g =
        let r = placed_in a bits w p.length l in
        let q : n ≡ p.prefix = eqb-true _ _ e in
        let h : p.prefix * k ≤ number_of a w = subst (λ (x : ℕ). x * k ≤ number_of a w) q r.0 in
        let t : number_of a w < (p.prefix + 1) * k = subst (λ (x : ℕ). number_of a w < (x + 1) * k) q r.1 in
        rw (le-leb (p.prefix * k) (number_of a w) h, lt-ltb (number_of a w) ((p.prefix + 1) * k) t) (sym e)
    go false e true g =
        let r = placed_in a bits w p.length l in
        let q : n + 1 ≤ p.prefix = omega (arith, ltb-true n p.prefix g) in
        let h : number_of a w < p.prefix * k = omega (arith, r.1, mul-le-mul_right k q) in
        rw (lt-leb (p.prefix * k) (number_of a w) h) (sym e)
    go false e false g =
        let r = placed_in a bits w p.length l in
        let z = eqb-false n p.prefix e in
        let q : p.prefix + 1 ≤ n = omega (arith, ltb-false n p.prefix g, z) in
        let h : (p.prefix + 1) * k ≤ number_of a w = omega (arith, r.0, mul-le-mul_right k q) in
        rw (le-ltb (number_of a w) ((p.prefix + 1) * k) h, and-false (leb (p.prefix * k) (number_of a w))) (sym e)

-- each number below 2 ^ w lies in just one piece of the listing of an accepted map, and that one has the number of its walk
pub listing-numbers : (m : Map) → Laws m → (w : ℕ) {c d : ℕ} → check m w ≡ Accepted c d
    → (x : ℕ) → x < 2 ^ w → JustOne w x (walk (bits_of w x) m w).number (listing m)
listing-numbers m law w ok x h =
    subst (λ (y : ℕ). JustOne w y (walk (bits_of w x) m w).number (listing m)) (number_again w x h)
    (listing-walks m law w ok (bits_of w x) (bits_are w x))
