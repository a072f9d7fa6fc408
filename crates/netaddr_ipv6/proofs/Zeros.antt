-- Runs of zero bytes: as the bytes of a slice, and as the part of a prefix that is zero. Assumes nothing.
use Rattle.std.proofs.Common.{ℕ, zero, suc, ◌+◌, ◌≤◌, true, List, length, take, drop, ◌≡◌, ◌∙◌, refl, sym, ap, add-one, eqb, arith}
use Rattle.std.proofs.lemmas.List.{length-drop, get_or-drop}
use Rattle.std.proofs.lemmas.List.Folds.{list_all_more}
use Rattle.std.specs.List.{list_all}
use mathlib.Core.Bool.{◌&&◌, and_assoc, and-true}
use borrow.Author.Tests.{eqb-true}
use Rattle.netaddr_ranges.specs.Prefix.{byte, same_bytes}
use Rattle.netaddr_ranges.specs.Unroutable.{zeros}
use Rattle.netaddr_ranges.proofs.Truth.{both_left, both_right}

-- The bytes of a slice are all zero where they are a run of zeros.
pub run : (i n : ℕ) (a : List ℕ) → i + n ≤ length a → list_all (λ x. eqb x 0) (take n (drop i a)) ≡ zeros i n a
unfolding zeros
run i zero a h = refl
run i (suc n) a h =
    rw (← add-one n, list_all_more (λ x. eqb x 0) (drop i a) n 0 (omega (arith, length-drop {A = ℕ})), get_or-drop i a n 0, run i n a (omega arith))

-- Where the bytes of a prefix from k on are zero, those of the address are asked to be a run of zeros.
pub zero_tail : (k n : ℕ) (p a : List ℕ) → zeros k n p ≡ true → same_bytes (n + k) p a ≡ (same_bytes k p a && zeros k n a)
unfolding zeros
zero_tail k zero p a h =
    let e : 0 + k ≡ k = omega arith in ap (λ m. same_bytes m p a) e ∙ sym (and-true (same_bytes k p a))
zero_tail k (suc n) p a h =
    let e : suc n + k ≡ suc (n + k) = omega arith in
    let q : k + n ≡ n + k = omega arith in
    let z = ap (λ j. byte j p) (sym q) ∙ eqb-true (byte (k + n) p) 0 (both_right (zeros k n p) _ h) in
    ap (λ m. same_bytes m p a) e
    ∙ (ap (λ x. same_bytes (n + k) p a && eqb (byte (n + k) a) x) z
    ∙ (ap (λ j. same_bytes (n + k) p a && eqb (byte j a) 0) (sym q)
    ∙ (ap (λ t. t && eqb (byte (k + n) a) 0) (zero_tail k n p a (both_left (zeros k n p) _ h))
    ∙ and_assoc (same_bytes k p a) (zeros k n a) (eqb (byte (k + n) a) 0))))
