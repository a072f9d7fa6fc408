-- The parts of a code, over sizes that grow by one (parts_grown).
-- Assumes nothing.
use mathlib.Core.Path.{◌≡◌, ◌∙◌, refl, sym, ap, ap₂}
use mathlib.Core.List.{List, ◌∷◌}
use Prim.Native.Nat.{ℕ, zero, suc, ◌+◌, ◌-◌, ◌^◌, ◌≤◌, ◌<◌}
use native.Mathlib.Nat.{pow-succ'}
use native.Mathlib.Omega.{arith}
use borrow.Author.Tests.{lt-ltb, le-ltb}
use lib.ListN.{length}
use lib.Pow.{pow_pos, pow_mono}
use Rattle.asmap_program.specs.Map.{Width}
use Rattle.asmap_codes.specs.Bits.{high}
use Rattle.asmap_codes.specs.Row.{span}
use Rattle.asmap_codes.specs.Encode.{encode}
use Rattle.asmap_codes.specs.models.Grown.{grown, stops}
use Rattle.asmap_codes.proofs.GrownLaws.{stops_more, stops-suc, pow_inverse, span_grown}
use Rattle.asmap_code_parts.specs.models.Parts.{ones_then, zeros_then, CodeParts, GrownParts}
use Rattle.asmap_code_parts.specs.declared.Parts.{Parts}

-- a one more, at the end of the ones
pub ones_more : (n : ℕ) (l : List ℕ) → ones_then n (1 ∷ l) ≡ ones_then (n + 1) l
ones_more n l = let e : suc n ≡ n + 1 = omega arith in go n ∙ ap (λ (k : ℕ). ones_then k l) e
  where
    go : (k : ℕ) → ones_then k (1 ∷ l) ≡ ones_then (suc k) l
    go zero = refl
    go (suc k) = ap (◌∷◌ 1) (go k)

-- ---- sizes that grow by one

-- the code at the size z, which is passed after i sizes
code_grown : (i s n x z y : ℕ) → i ≤ n → z ≡ s + i → y + 2 ^ z ≡ x + 2 ^ s → y < 2 ^ z
    → encode (grown s (suc n)) x ≡ ones_then i (zeros_then (stops i (suc n)) (high z y))
code_grown zero s zero x z y h e q l =
    let a : s ≡ z = omega arith in
    let b : x ≡ y = omega (arith, ap (λ (k : ℕ). 2 ^ k) a) in
    ap₂ high a b
code_grown zero s (suc n) x z y h e q l =
    let a : s ≡ z = omega arith in
    let p = ap (λ (k : ℕ). 2 ^ k) a in
    let b : x ≡ y = omega (arith, p) in
    rw (lt-ltb x (2 ^ s) (omega (arith, p)), stops_more 0 (suc (suc n)) (omega arith)) (ap₂ (λ (i j : ℕ). 0 ∷ high i j) a b)
code_grown (suc i) s zero x z y h e q l = absurd (omega arith)
code_grown (suc i) s (suc n) x z y h e q l =
    let m = pow_mono {i = suc s} {j = z} (omega arith) in
    let d = pow-succ' 2 s in
    let r = code_grown i (suc s) n (x - 2 ^ s) z y (omega arith) (omega arith) (omega (arith, m, d)) l in
    rw (le-ltb x (2 ^ s) (omega (arith, m, d)), ← stops-suc i (suc n)) (ap (◌∷◌ 1) r)

-- the bit width of x + 2 ^ s tells the size
pub record Sized (s x r : ℕ) : Type 0 where
  pub some : 1 ≤ r
  pub from : s ≤ r - 1
  pub fits : r - 1 < 32
  pub above : 2 ^ (r - 1) ≤ x + 2 ^ s
  pub below : x + 2 ^ s < 2 ^ suc (r - 1)

pub sized : (s x r : ℕ) → x + 2 ^ s < 2 ^ 32 → Width (x + 2 ^ s) r → Sized s x r
sized s x r h w =
    let p = pow_pos s in
    let l : 2 ^ (r - 1) ≤ x + 2 ^ s = w.low (omega arith) in
    let n : 1 ≤ r = omega (arith, pow_inverse s r (omega (arith, w.high))) in
    let e : r ≡ suc (r - 1) = omega arith in
    record {
      some = n;
      from = omega (arith, pow_inverse s r (omega (arith, w.high)));
      fits = pow_inverse (r - 1) 32 (omega arith);
      above = l;
      below = rw e at w.high;
    }

pub parts_grown : (ss : List ℕ) (s x : ℕ) (p : Parts) → 0 < length ss → span ss ≤ 2 ^ 31 → x < span ss → ss ≡ grown s (length ss)
    → GrownParts s x p → CodeParts ss x p
parts_grown ss s x p h m l e g =
    let n = length ss - 1 in
    let k : length ss ≡ suc n = omega arith in
    let t : ss ≡ grown s (suc n) = e ∙ ap (grown s) k in
    let w = span_grown s (suc n) in
    let v = ap span t in
    let i : p.size < s + suc n = pow_inverse p.size (s + suc n) (omega (arith, w, v, g.above)) in
    let d = pow-succ' 2 p.size in
    record {
      inside = omega (arith, i, g.passed);
      size = omega (arith, pow_inverse p.size 32 (omega (arith, v, g.above)));
      small = omega (arith, g.rest, g.above, g.below, d);
      code = ap (λ (y : List ℕ). encode y x) t
          ∙ code_grown p.ones s n x p.size p.rest (omega (arith, i, g.passed)) g.passed (omega (arith, g.rest, g.above)) (omega (arith, g.rest, g.above, g.below, d))
          ∙ ap (λ (y : ℕ). ones_then p.ones (zeros_then (stops p.ones y) (high p.size p.rest))) (sym k);
    }
