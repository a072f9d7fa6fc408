-- What a list has from a place on; the candidate at a place, and whether those from a place on are valid.
-- Assumes nothing.
use mathlib.Core.Path.{◌≡◌, ◌∙◌, refl, sym, ap}
use mathlib.Core.List.{List, [], ◌∷◌, ◌++◌}
use mathlib.Core.Bool.{Bool, true, false, ◌&&◌, and-true, and_assoc}
use Prim.Native.Nat.{ℕ, zero, suc, ◌+◌, ◌*◌, ◌/◌, ◌≤◌, ◌<◌}
use native.Mathlib.Omega.{arith}
use native.Mathlib.Numerals.{add-one}
use lib.ListN.{length, take, drop, get_or, take-append-drop}
use lib.Seq.{drop-cons, drop-drop}
use Rattle.candidate_bytes.specs.Candidate.{valid}
use Rattle.peer_lists.specs.Candidates.{cut, candidates_of, all_valid}

-- the element at a place and those after it
pub ahead : {A : Type 0} (xs : List A) (i : ℕ) (d : A) → i < length xs → drop i xs ≡ get_or xs i d ∷ drop (i + 1) xs
ahead xs i d h = rw (add-one i) (drop-cons xs i d h)

pub ended : {A : Type 0} (xs : List A) (i : ℕ) → length xs ≤ i → drop i xs ≡ []
ended [] zero h = refl
ended [] (suc i) h = refl
ended (x ∷ xs) zero h = absurd (omega arith)
ended (x ∷ xs) (suc i) h = ended xs i (omega arith)

-- n candidates from the front
pub length_cut : (n : ℕ) (bytes : List ℕ) → length (cut n bytes) ≡ n
length_cut zero bytes = refl
length_cut (suc n) bytes = ap suc (length_cut n _)

-- the candidate at a place is the 20 bytes from 20 times that place on
pub cut_at : (n : ℕ) (bytes : List ℕ) (i : ℕ) → i < n → get_or (cut n bytes) i [] ≡ take 20 (drop (20 * i) bytes)
cut_at zero bytes i h = absurd (omega arith)
cut_at (suc n) bytes zero h = refl
cut_at (suc n) bytes (suc i) h =
    let e : 20 * suc i ≡ 20 + 20 * i = omega arith in
    cut_at n (drop 20 bytes) i (omega arith) ∙ ap (λ (l : List ℕ). take 20 l) (drop-drop (20 * i) 20 bytes ∙ ap (λ (k : ℕ). drop k bytes) (sym e))

pub candidate_at_lem : (bytes : List ℕ) (i : ℕ) → i < length bytes / 20 → get_or (candidates_of bytes) i [] ≡ take 20 (drop (20 * i) bytes)
candidate_at_lem bytes i h = cut_at (length bytes / 20) bytes i h

pub length_candidates : (bytes : List ℕ) → length (candidates_of bytes) ≡ length bytes / 20
length_candidates bytes = length_cut (length bytes / 20) bytes

-- the validity of all, from a place on
module _ (all : List (List ℕ)) (i : ℕ) where
  pub valid_on : i < length all → valid (get_or all i []) ≡ true → all_valid (drop i all) ≡ all_valid (drop (i + 1) all)
  valid_on h e = rw (ahead all i [] h, e)

  pub valid_not : i < length all → valid (get_or all i []) ≡ false → all_valid (drop i all) ≡ false
  valid_not h e = rw (ahead all i [] h, e)

  pub valid-done : length all ≤ i → all_valid (drop i all) ≡ true
  valid-done h = rw (ended all i h)

-- a list of candidates a part at a time
valid-append : (xs ys : List (List ℕ)) → all_valid (xs ++ ys) ≡ (all_valid xs && all_valid ys)
valid-append [] ys = refl
valid-append (x ∷ xs) ys = ap (λ (b : Bool). valid x && b) (valid-append xs ys) ∙ sym (and_assoc (valid x) (all_valid xs) (all_valid ys))

module _ (all : List (List ℕ)) (i k : ℕ) where
  parted : all_valid (drop i all) ≡ (all_valid (take k (drop i all)) && all_valid (drop (i + k) all))
  parted = ap all_valid (sym (take-append-drop k (drop i all))) ∙ valid-append (take k (drop i all)) (drop k (drop i all)) ∙ rw (drop-drop k i all)

  pub part-valid : all_valid (take k (drop i all)) ≡ true → all_valid (drop i all) ≡ all_valid (drop (i + k) all)
  part-valid e = parted ∙ rw e

  pub part_not : all_valid (take k (drop i all)) ≡ false → all_valid (drop i all) ≡ false
  part_not e = parted ∙ rw e

-- four candidates
pub four : (all : List (List ℕ)) (i : ℕ) → i + 4 ≤ length all
    → all_valid (take 4 (drop i all)) ≡ (valid (get_or all i []) && (valid (get_or all (i + 1) []) && (valid (get_or all (i + 2) []) && valid (get_or all (i + 3) []))))
four all i h =
    let a : i + 1 + 1 ≡ i + 2 = omega arith in
    let b : i + 2 + 1 ≡ i + 3 = omega arith in
    rw (ahead all i [] (omega arith), ahead all (i + 1) [] (omega arith), a, ahead all (i + 2) [] (omega arith), b, ahead all (i + 3) [] (omega arith), and-true (valid (get_or all (i + 3) [])))
