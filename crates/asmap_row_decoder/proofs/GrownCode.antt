-- A code over sizes that grow by one, read at once: the ones that the window starts with tell the size (code_grown), and they are the
-- zeros that the window would start with if each bit were the other (ones_trailing).
-- Assumes nothing.
use mathlib.Core.Path.{◌≡◌, ◌∙◌, refl, sym, ap}
use Prim.Native.Nat.{ℕ, zero, suc, ◌+◌, ◌-◌, ◌*◌, ◌/◌, ◌%◌, ◌^◌, ◌≤◌, ◌<◌, min}
use native.Mathlib.Nat.{pow-succ', div-one}
use native.Mathlib.Decide.{dec_lt}
use native.Mathlib.Omega.{arith}
use borrow.Author.Tests.{eq-eqb, ne_eqb}
use lib.Count.{count_trailing_zeros, under}
use lib.Pow.{pow_pos, pow_mono, shr-shr}
use Rattle.asmap_codes.specs.Row.{span}
use Rattle.asmap_codes.specs.models.Grown.{grown, stops}
use Rattle.asmap_codes.proofs.GrownLaws.{stops_more, stops_last, stops-suc, span_grown, pow_inverse}
use Rattle.asmap_row_decoder.specs.models.InWindow.{tail_in, code_in, one_more, ones_of}

-- ---- how many ones

ones_none : (w : ℕ) → ones_of 0 w ≡ 0
unfolding ones_of
ones_none w = refl

ones-zero : (n w : ℕ) → w % 2 ≡ 0 → ones_of (suc n) w ≡ 0
unfolding ones_of
ones-zero n w e = ap (λ (b : ℕ). one_more b (ones_of n (w / 2))) e

ones_one : (n w : ℕ) → w % 2 ≡ 1 → ones_of (suc n) w ≡ suc (ones_of n (w / 2))
unfolding ones_of
ones_one n w e = ap (λ (b : ℕ). one_more b (ones_of n (w / 2))) e

pub ones_le : (n w : ℕ) → ones_of n w ≤ n
ones_le zero w = omega (arith, ones_none w)
ones_le (suc n) w = go (dec_lt (w % 2) 1) (ones_le n (w / 2))
  where
    go : Dec (w % 2 < 1) → ones_of n (w / 2) ≤ n → ones_of (suc n) w ≤ suc n
    go (yes h) r = omega (arith, ones-zero n w (omega arith))
    go (no h) r = omega (arith, ones_one n w (omega arith), r)

-- of the n lowest bits, the zeros before a one, if each bit is the other
pub ones_trailing : (n k w : ℕ) → n ≤ k → w < 2 ^ k → count_trailing_zeros n (2 ^ k - 1 - w) ≡ ones_of n w
unfolding count_trailing_zeros
ones_trailing zero k w h l = sym (ones_none w)
ones_trailing (suc n) zero w h l = absurd (omega arith)
ones_trailing (suc n) (suc k) w h l = go (dec_lt (w % 2) 1) (ones_trailing n k (w / 2) (omega arith) (omega (arith, pow-succ' 2 k)))
  where
    d : 2 ^ suc k ≡ 2 * 2 ^ k
    d = pow-succ' 2 k

    half : (2 ^ suc k - 1 - w) / 2 ≡ 2 ^ k - 1 - w / 2
    half = omega (arith, d)

    go : Dec (w % 2 < 1) → count_trailing_zeros n (2 ^ k - 1 - w / 2) ≡ ones_of n (w / 2)
        → under ((2 ^ suc k - 1 - w) % 2) (count_trailing_zeros n ((2 ^ suc k - 1 - w) / 2)) ≡ ones_of (suc n) w
    go (yes z) r =
        let e : (2 ^ suc k - 1 - w) % 2 ≡ 1 = omega (arith, d) in
        ap (λ (b : ℕ). under b (count_trailing_zeros n ((2 ^ suc k - 1 - w) / 2))) e ∙ sym (ones-zero n w (omega arith))
    go (no z) r =
        let e : (2 ^ suc k - 1 - w) % 2 ≡ 0 = omega (arith, d) in
        ap (λ (b : ℕ). under b (count_trailing_zeros n ((2 ^ suc k - 1 - w) / 2))) e
        ∙ ap suc (ap (count_trailing_zeros n) half ∙ r)
        ∙ sym (ones_one n w (omega arith))

-- fewer bits are looked at: as many ones, or all
pub ones_most : (n m w : ℕ) → n ≤ m → min n (ones_of m w) ≡ ones_of n w
ones_most zero m w h = omega (arith, ones_none w)
ones_most (suc n) zero w h = absurd (omega arith)
ones_most (suc n) (suc m) w h = go (dec_lt (w % 2) 1) (ones_most n m (w / 2) (omega arith))
  where
    go : Dec (w % 2 < 1) → min n (ones_of m (w / 2)) ≡ ones_of n (w / 2) → min (suc n) (ones_of (suc m) w) ≡ ones_of (suc n) w
    go (yes z) r = omega (arith, ones-zero m w (omega arith), ones-zero n w (omega arith))
    go (no z) r = omega (arith, ones_one m w (omega arith), ones_one n w (omega arith), r)

-- ---- the code

grown_last : (s v at end w : ℕ) → code_in (grown s 1) v at end w ≡ tail_in s v at end w
unfolding code_in
grown_last s v at end w = refl

grown_stop : (n s v at end w : ℕ) → w % 2 ≡ 0 → code_in (grown s (suc (suc n))) v at end w ≡ tail_in s v (at + 1) end (w / 2)
unfolding code_in
grown_stop n s v at end w e = rw (eq-eqb (w % 2) 0 e)

grown_more : (n s v at end w : ℕ) → w % 2 ≡ 1
    → code_in (grown s (suc (suc n))) v at end w ≡ code_in (grown (suc s) (suc n)) (v + 2 ^ s) (at + 1) end (w / 2)
unfolding code_in
grown_more n s v at end w e = rw (ne_eqb (w % 2) 0 (omega arith))

-- the same tail
same_tail : (s t v u at bt end w x : ℕ) → s ≡ t → v ≡ u → at ≡ bt → w ≡ x → tail_in s v at end w ≡ tail_in t u bt end x
same_tail s t v u at bt end w x a b c d = cc

-- k ones pass k sizes, and the size after them has the value
abbrev Passed : ℕ → ℕ → ℕ → ℕ → ℕ → ℕ → ℕ → Type 0
Passed n s v at end w k = code_in (grown s (suc n)) v at end w ≡ tail_in (s + k) (v + (2 ^ (s + k) - 2 ^ s)) (at + (k + stops k (suc n))) end (w / 2 ^ (k + stops k (suc n)))

pub code_grown : (n s v at end w k : ℕ) → k ≡ ones_of n w → Passed n s v at end w k
code_grown zero s v at end w k e =
    let z : k ≡ 0 = omega (arith, ones_none w) in
    let t = stops_last k 1 (omega arith) in
    let y : k + stops k 1 ≡ 0 = omega (arith, t) in
    grown_last s v at end w
    ∙ same_tail s (s + k) v (v + (2 ^ (s + k) - 2 ^ s)) at (at + (k + stops k 1)) end w (w / 2 ^ (k + stops k 1))
    (omega arith) (omega (arith, ap (λ (i : ℕ). 2 ^ (s + i)) z, ap (λ (i : ℕ). 2 ^ i) {x = s + 0} {y = s} (omega arith))) (omega arith) (sym (div-one w) ∙ ap (λ (i : ℕ). w / 2 ^ i) (sym y))
code_grown (suc n) s v at end w k e = go (dec_lt (w % 2) 1) (code_grown n (suc s) (v + 2 ^ s) (at + 1) end (w / 2) (ones_of n (w / 2)) refl)
  where
    m : ℕ
    m = suc (suc n)

    go : Dec (w % 2 < 1) → Passed n (suc s) (v + 2 ^ s) (at + 1) end (w / 2) (ones_of n (w / 2)) → Passed (suc n) s v at end w k
    go (yes h) r =
        let z : k ≡ 0 = omega (arith, ones-zero n w (omega arith)) in
        let y : k + stops k m ≡ 1 = omega (arith, stops_more k m (omega arith)) in
        grown_stop n s v at end w (omega arith)
        ∙ same_tail s (s + k) v (v + (2 ^ (s + k) - 2 ^ s)) (at + 1) (at + (k + stops k m)) end (w / 2) (w / 2 ^ (k + stops k m))
        (omega arith) (omega (arith, ap (λ (i : ℕ). 2 ^ (s + i)) z, ap (λ (i : ℕ). 2 ^ i) {x = s + 0} {y = s} (omega arith))) (omega (arith, y)) (ap (λ (i : ℕ). w / 2 ^ i) (sym y))
    go (no h) r =
        let j = ones_of n (w / 2) in
        let z : k ≡ suc j = omega (arith, ones_one n w (omega arith)) in
        let q : suc s + j ≡ s + k = omega arith in
        let p : 2 ^ suc s ≤ 2 ^ (suc s + j) = pow_mono {i = suc s} {j = suc s + j} (omega arith) in
        let y : k + stops k m ≡ suc (j + stops j (suc n)) = ap (λ (i : ℕ). i + stops i m) z ∙ omega (arith, stops-suc j (suc n)) in
        grown_more n s v at end w (omega arith)
        ∙ r
        ∙ same_tail (suc s + j) (s + k) (v + 2 ^ s + (2 ^ (suc s + j) - 2 ^ suc s)) (v + (2 ^ (s + k) - 2 ^ s)) (at + 1 + (j + stops j (suc n))) (at + (k + stops k m)) end (w / 2 / 2 ^ (j + stops j (suc n))) (w / 2 ^ (k + stops k m))
        q (omega (arith, ap (λ (i : ℕ). 2 ^ i) q, p, pow-succ' 2 s)) (omega (arith, y)) (shr-shr w 1 (j + stops j (suc n)) ∙ ap (λ (i : ℕ). w / 2 ^ i) (omega (arith, y)))

-- ---- what fits

-- for ones that a row of n sizes has: the size fits, and the values up to its last
pub record Fits (v s n k : ℕ) : Type 0 where
  pub size : s + k ≤ 31
  pub first : 2 ^ s ≤ 2 ^ (s + k)
  pub room : v + (2 ^ (s + k) - 2 ^ s) + 2 ^ (s + k) ≤ 2 ^ 31

pub grown_fits : (v s n k : ℕ) → k < n → v + span (grown s n) ≤ 2 ^ 31 → Fits v s n k
grown_fits v s n k h l =
    let w = span_grown s n in
    let a = pow_mono {i = suc (s + k)} {j = s + n} (omega arith) in
    let d = pow-succ' 2 (s + k) in
    let f = pow_mono {i = s} {j = s + k} (omega arith) in
    record {
      size = omega (arith, pow_inverse (s + k) 32 (omega (arith, w, a, d, f, pow_pos s)));
      first = f;
      room = omega (arith, w, a, d);
    }
