-- A list of groups scanned for one, a part at a time: where the first hit stands, by the parts.
-- Assumes nothing.
use mathlib.Core.Path.{◌≡◌, ◌∙◌, refl, sym, ap}
use mathlib.Core.List.{List, [], ◌∷◌, ◌++◌}
use mathlib.Core.Bool.{Bool, ◌||◌, or_assoc}
use Prim.Native.Nat.{ℕ, suc, ◌+◌, ◌≤◌, ◌<◌}
use native.Mathlib.Omega.{arith}
use native.Mathlib.Decide.{ℕ_discrete}
use borrow.Author.Tests.{eq-eqb, ne_eqb, lt-ltb, le-ltb}
use lib.Dec.{eqb, ltb}
use lib.ListN.{length, take, drop, get_or, take-append-drop, length-drop}
use lib.Seq.{drop-drop, take-add, length-take-le}
use Rattle.group_lists.specs.Groups.{has}
use Rattle.group_lists.specs.Scan.{in_front}
use Rattle.peer_lists.proofs.Lists.{ahead, ended}

pub has-append : (g : ℕ) (xs ys : List ℕ) → has g (xs ++ ys) ≡ (has g xs || has g ys)
has-append g [] ys = refl
has-append g (x ∷ xs) ys = ap (λ (b : Bool). eqb g x || b) (has-append g xs ys) ∙ sym (or_assoc (eqb g x) (has g xs) (has g ys))

-- one group more in front
module _ (g x : ℕ) (xs : List ℕ) where
  pub front-first : g ≡ x → in_front g (x ∷ xs) ≡ 0
  front-first e = rw (eq-eqb g x e)

  pub front-next : (g ≡ x → ⊥) → in_front g (x ∷ xs) ≡ in_front g xs + 1
  front-next e = rw (ne_eqb g x e)

pub front_most : (g : ℕ) (xs : List ℕ) → in_front g xs ≤ length xs
front_most g [] = omega arith
front_most g (x ∷ xs) = go (ℕ_discrete g x) (front_most g xs)
  where
    go : Dec (g ≡ x) → in_front g xs ≤ length xs → in_front g (x ∷ xs) ≤ length (x ∷ xs)
    go (yes e) ih = rw (front-first g x xs e) (omega arith)
    go (no e) ih = rw (front-next g x xs e) (omega arith)

-- a hit among the first groups stays where it is, whatever follows them
pub front_here : (g : ℕ) (xs ys : List ℕ) → in_front g xs < length xs → in_front g (xs ++ ys) ≡ in_front g xs
front_here g [] ys h = absurd (omega arith)
front_here g (x ∷ xs) ys h = go (ℕ_discrete g x) (front_here g xs ys)
  where
    go : Dec (g ≡ x) → (in_front g xs < length xs → in_front g (xs ++ ys) ≡ in_front g xs) → in_front g (x ∷ xs ++ ys) ≡ in_front g (x ∷ xs)
    go (yes e) ih = front-first g x (xs ++ ys) e ∙ sym (front-first g x xs e)
    go (no e) ih = front-next g x (xs ++ ys) e ∙ ap (λ (k : ℕ). k + 1) (ih (omega (arith, front-next g x xs e))) ∙ sym (front-next g x xs e)

-- with none among them the groups after them decide
pub front_on : (g : ℕ) (xs ys : List ℕ) → length xs ≤ in_front g xs → in_front g (xs ++ ys) ≡ length xs + in_front g ys
front_on g [] ys h = omega arith
front_on g (x ∷ xs) ys h = go (ℕ_discrete g x) (front_on g xs ys)
  where
    go : Dec (g ≡ x) → (length xs ≤ in_front g xs → in_front g (xs ++ ys) ≡ length xs + in_front g ys) → in_front g (x ∷ xs ++ ys) ≡ length (x ∷ xs) + in_front g ys
    go (yes e) ih = absurd (omega (arith, front-first g x xs e))
    go (no e) ih = omega (arith, front-next g x (xs ++ ys) e, ih (omega (arith, front-next g x xs e)))

ltb_next : (a n : ℕ) → a ≤ n → ltb a n ≡ ltb (a + 1) (suc n)
ltb_next a n h = go (ℕ_discrete a n)
  where
    go : Dec (a ≡ n) → ltb a n ≡ ltb (a + 1) (suc n)
    go (yes e) = le-ltb a n (omega arith) ∙ sym (le-ltb (a + 1) (suc n) (omega arith))
    go (no e) = lt-ltb a n (omega arith) ∙ sym (lt-ltb (a + 1) (suc n) (omega arith))

-- a group is in the list just where a hit stands before the list's end
pub has_front : (g : ℕ) (xs : List ℕ) → has g xs ≡ ltb (in_front g xs) (length xs)
has_front g [] = refl
has_front g (x ∷ xs) = go (ℕ_discrete g x) (has_front g xs)
  where
    go : Dec (g ≡ x) → has g xs ≡ ltb (in_front g xs) (length xs) → has g (x ∷ xs) ≡ ltb (in_front g (x ∷ xs)) (length (x ∷ xs))
    go (yes e) ih = rw (eq-eqb g x e, lt-ltb 0 (length (x ∷ xs)) (omega arith))
    go (no e) ih = rw (ne_eqb g x e) (ih ∙ ltb_next (in_front g xs) (length xs) (front_most g xs))

-- j groups from a place on
module _ (g : ℕ) (xs : List ℕ) (i j : ℕ) (h : i + j ≤ length xs) where
  many : length (take j (drop i xs)) ≡ j
  many = length-take-le j (drop i xs) (omega (arith, length-drop i xs))

  -- and k after them
  pub part_here : (k : ℕ) → in_front g (take j (drop i xs)) < j → in_front g (take (j + k) (drop i xs)) ≡ in_front g (take j (drop i xs))
  part_here k e = ap (in_front g) (take-add j k (drop i xs)) ∙ front_here g (take j (drop i xs)) (take k (drop j (drop i xs))) (omega (arith, many))

  pub part_on : (k : ℕ) → j ≤ in_front g (take j (drop i xs)) → in_front g (take (j + k) (drop i xs)) ≡ j + in_front g (take k (drop (i + j) xs))
  part_on k e =
      ap (in_front g) (take-add j k (drop i xs))
      ∙ front_on g (take j (drop i xs)) (take k (drop j (drop i xs))) (omega (arith, many))
      ∙ rw (many, drop-drop j i xs)

  -- and all after them
  pub rest_here : in_front g (take j (drop i xs)) < j → in_front g (drop i xs) ≡ in_front g (take j (drop i xs))
  rest_here e = ap (in_front g) (sym (take-append-drop j (drop i xs))) ∙ front_here g (take j (drop i xs)) (drop j (drop i xs)) (omega (arith, many))

  pub rest_on : j ≤ in_front g (take j (drop i xs)) → in_front g (drop i xs) ≡ j + in_front g (drop (i + j) xs)
  rest_on e =
      ap (in_front g) (sym (take-append-drop j (drop i xs)))
      ∙ front_on g (take j (drop i xs)) (drop j (drop i xs)) (omega (arith, many))
      ∙ rw (many, drop-drop j i xs)

-- one group at a place
module _ (g : ℕ) (xs : List ℕ) (i : ℕ) where
  pub one_hit : i < length xs → g ≡ get_or xs i 0 → in_front g (take 1 (drop i xs)) ≡ 0
  one_hit h e = rw (ahead xs i 0 h) (front-first g (get_or xs i 0) [] e)

  pub one_missed : i < length xs → (g ≡ get_or xs i 0 → ⊥) → in_front g (take 1 (drop i xs)) ≡ 1
  one_missed h e = rw (ahead xs i 0 h) (front-next g (get_or xs i 0) [] e)

  pub front-done : length xs ≤ i → in_front g (drop i xs) ≡ 0
  front-done h = rw (ended xs i h)

-- with k groups more behind it
module _ (g : ℕ) (xs : List ℕ) (i k : ℕ) (h : i < length xs) where
  pub next_hit : g ≡ get_or xs i 0 → in_front g (take (1 + k) (drop i xs)) ≡ 0
  next_hit e =
      let z = one_hit g xs i h e in
      part_here g xs i 1 (omega arith) k (omega (arith, z)) ∙ z

  pub next_missed : (g ≡ get_or xs i 0 → ⊥) → in_front g (take (1 + k) (drop i xs)) ≡ 1 + in_front g (take k (drop (i + 1) xs))
  next_missed e = part_on g xs i 1 (omega arith) k (omega (arith, one_missed g xs i h e))
