-- A candidate has 20 bytes; what their words say of the mapped form, and what the first words say of whether they are a candidate.
-- Assumes nothing.
use mathlib.Core.Path.{◌≡◌, ◌∙◌, refl, subst}
use mathlib.Core.List.{List, [], ◌∷◌}
use mathlib.Core.Bool.{true, false, ◌&&◌, ◌||◌, or-false}
use Prim.Native.Nat.{ℕ}
use native.Mathlib.Omega.{arith}
use native.Mathlib.Decide.{ℕ_discrete}
use borrow.Author.Tests.{eq-eqb, ne_eqb, eqb-true}
use lib.Dec.{eqb}
use lib.ListN.{length, take, drop, get_or, length-drop}
use lib.Seq.{drop-drop, length-take-le}
use Rattle.candidate_bytes.specs.Candidate.{same, mapped, valid, mapped_front}
use Rattle.byte_numbers.specs.models.Word.{number, Word}
use Rattle.candidate_bytes.proofs.Sames.{both, parted}
use Rattle.byte_numbers.proofs.Words.{next, half-bytes, word_bytes}
use Rattle.candidate_bytes.proofs.SameNumbers.{same_number, same_word}

pub valid-length : (c : List ℕ) → valid c ≡ true → length c ≡ 20
unfolding valid
valid-length c h = eqb-true (length c) 20 (both (eqb (length c) 20) _ h).0

module _ (c : List ℕ) (h : length c ≡ 20) where
  front : List ℕ
  front = get_or c 0 0 ∷ get_or c 1 0 ∷ get_or c 2 0 ∷ get_or c 3 0 ∷ get_or c 4 0 ∷ get_or c 5 0 ∷ get_or c 6 0 ∷ get_or c 7 0 ∷ []

  abbrev six : List ℕ
  six = get_or c 2 0 ∷ get_or c 3 0 ∷ get_or c 4 0 ∷ get_or c 5 0 ∷ get_or c 6 0 ∷ get_or c 7 0 ∷ []

  six-bytes : take 6 (drop 2 c) ≡ six
  six-bytes = rw (
    next c 2 3 refl (omega arith),
    next c 3 4 refl (omega arith),
    next c 4 5 refl (omega arith),
    next c 5 6 refl (omega arith),
    next c 6 7 refl (omega arith),
    next c 7 8 refl (omega arith),
  )

  -- the mapped form by its first four bytes and the word after them; by its first six bytes and those after them
  by_four : mapped c ≡ (same (take 4 (drop 2 c)) (0 ∷ 0 ∷ 0 ∷ 0 ∷ []) && same (take 8 (drop 6 c)) (0 ∷ 0 ∷ 0 ∷ 0 ∷ 0 ∷ 0 ∷ 255 ∷ 255 ∷ []))
  unfolding mapped
  by_four = rw (← drop-drop 4 2 c) (parted 4 8 (drop 2 c) mapped_front (omega (arith, length-drop 2 c)) (omega arith))

  by_six : mapped c ≡ (same (take 6 (drop 2 c)) (0 ∷ 0 ∷ 0 ∷ 0 ∷ 0 ∷ 0 ∷ []) && same (take 6 (drop 8 c)) (0 ∷ 0 ∷ 0 ∷ 0 ∷ 255 ∷ 255 ∷ []))
  unfolding mapped
  by_six = rw (← drop-drop 6 2 c) (parted 6 6 (drop 2 c) mapped_front (omega (arith, length-drop 2 c)) (omega arith))

  last_word : (v : ℕ) → Word v (take 8 (drop 6 c)) → same (take 8 (drop 6 c)) (0 ∷ 0 ∷ 0 ∷ 0 ∷ 0 ∷ 0 ∷ 255 ∷ 255 ∷ []) ≡ eqb v 18446462598732840960
  last_word v q =
      let k : Word 18446462598732840960 (0 ∷ 0 ∷ 0 ∷ 0 ∷ 0 ∷ 0 ∷ 255 ∷ 255 ∷ []) =
      record { value = refl; small = (omega arith, (omega arith, (omega arith, (omega arith, (omega arith, (omega arith, (omega arith, (omega arith, tt)))))))) } in
      same_word v 18446462598732840960 (take 8 (drop 6 c)) (0 ∷ 0 ∷ 0 ∷ 0 ∷ 0 ∷ 0 ∷ 255 ∷ 255 ∷ []) (length-take-le 8 (drop 6 c) (omega (arith, length-drop 6 c))) q k

  first_half : (u : ℕ) → Word u (take 4 (drop 2 c)) → same (take 4 (drop 2 c)) (0 ∷ 0 ∷ 0 ∷ 0 ∷ []) ≡ eqb u 0
  first_half u p =
      let k : Word 0 (0 ∷ 0 ∷ 0 ∷ 0 ∷ []) = record { value = refl; small = (omega arith, (omega arith, (omega arith, (omega arith, tt)))) } in
      same_word u 0 (take 4 (drop 2 c)) (0 ∷ 0 ∷ 0 ∷ 0 ∷ []) (length-take-le 4 (drop 2 c) (omega (arith, length-drop 2 c))) p k

  -- the first four bytes decide, or the word after them does
  module _ (u : ℕ) (p : Word u (take 4 (drop 2 c))) where
    pub other_half : (u ≡ 0 → ⊥) → mapped c ≡ false
    other_half d = by_four ∙ rw (first_half u p, ne_eqb u 0 d)

    pub zero_half_lem : u ≡ 0 → (v : ℕ) → Word v (take 8 (drop 6 c)) → mapped c ≡ eqb v 18446462598732840960
    zero_half_lem e v q = by_four ∙ rw (first_half u p, eq-eqb u 0 e, last_word v q)

  module _ (w : ℕ) (p : Word w (take 8 (drop 0 c))) where
    word : Word w front
    unfolding front
    word = subst (Word w) (word_bytes c 0 (omega arith)) p

    -- 4 and seven zeros: the mapped form is decided by the next word
    pub four-valid : w ≡ 4 → (v : ℕ) → Word v (take 8 (drop 6 c)) → valid c ≡ eqb v 18446462598732840960
    unfolding valid front
    four-valid e v q =
        let n = word.value in
        let z0 : get_or c 0 0 ≡ 4 = omega (arith, n) in
        let z1 : get_or c 1 0 ≡ 0 = omega (arith, n) in
        let z2 : get_or c 2 0 ≡ 0 = omega (arith, n) in
        let z3 : get_or c 3 0 ≡ 0 = omega (arith, n) in
        let z4 : get_or c 4 0 ≡ 0 = omega (arith, n) in
        let z5 : get_or c 5 0 ≡ 0 = omega (arith, n) in
        let zeros : same (take 4 (drop 2 c)) (0 ∷ 0 ∷ 0 ∷ 0 ∷ []) ≡ true = rw (half-bytes c 2 (omega arith), z2, z3, z4, z5) in
        rw (eq-eqb (length c) 20 h, z1, z0) (by_four ∙ rw zeros (last_word v q))

    -- else family 4 has not the mapped form
    not-mapped : (w ≡ 4 → ⊥) → get_or c 1 0 ≡ 0 → get_or c 0 0 ≡ 4 → mapped c ≡ false
    unfolding front
    not-mapped d z1 z0 =
        let s : same six (0 ∷ 0 ∷ 0 ∷ 0 ∷ 0 ∷ 0 ∷ []) ≡ eqb (number six) 0 =
        same_number six (0 ∷ 0 ∷ 0 ∷ 0 ∷ 0 ∷ 0 ∷ []) refl word.small.1.1 (omega arith, (omega arith, (omega arith, (omega arith, (omega arith, (omega arith, tt)))))) in
        by_six ∙ rw (six-bytes, s, ne_eqb (number six) 0 (λ x. d (omega (arith, word.value))))

    pub other-valid : (w ≡ 4 → ⊥) → get_or c 1 0 ≡ 0 → valid c ≡ eqb (get_or c 0 0) 6
    unfolding valid
    other-valid d z1 = rw (eq-eqb (length c) 20 h, eq-eqb (get_or c 1 0) 0 z1) (go (ℕ_discrete (get_or c 0 0) 4))
      where
        go : Dec (get_or c 0 0 ≡ 4) → (eqb (get_or c 0 0) 6 || (eqb (get_or c 0 0) 4 && mapped c)) ≡ eqb (get_or c 0 0) 6
        go (yes e) = rw (not-mapped d z1 e, e)
        go (no e) = rw (ne_eqb (get_or c 0 0) 4 e) (or-false (eqb (get_or c 0 0) 6))
