-- The candidate at a place, by its bytes in the row: its 16 address bytes, its prefix, and what a list of all candidates' numbers is.
-- Assumes nothing.
use Prim.Native.Nat.{ℕ, zero, suc, ◌+◌, ◌*◌, ◌/◌, ◌<◌, ◌≤◌}
use mathlib.Core.Path.{◌≡◌, ◌∙◌, refl, sym, ap, ap₂, subst}
use mathlib.Core.Logic.{◌⊎◌, inl, inr, ⊎_elim}
use mathlib.Core.Bool.{Bool, true, false, cond}
use mathlib.Core.List.{List, [], ◌∷◌, map}
use native.Mathlib.Omega.{arith}
use borrow.Author.Tests.{eq-eqb, ne_eqb}
use lib.Dec.{eqb, ltb}
use lib.ListN.{length, take, drop, get_or, length-drop}
use lib.Seq.{length-take-le, take-take, drop-drop, get_or-take, get_or-drop}
use Rattle.candidate_bytes.specs.Candidate.{address, mapped_front, mapped, valid}
use Rattle.peer_lists.specs.Refusal.{candidate_refusal}
use Rattle.netgroup.specs.Group.{prefix4, old_prefix_group, ipv4, prefix_group}
use Rattle.peer_lists.specs.Candidates.{cut, candidates_of, all_valid}
use Rattle.pick_passes.specs.First.{Pass, examine, pass_from}
use Rattle.pick_passes.proofs.Passes.{examine_count}
use Rattle.demand_statements.specs.AnyInput.{Candidate}
use Rattle.demand_statements.specs.Picked.{each, ipv4_at, prefix_at, old_prefix_at}
use Rattle.std.specs.Prelude.{None}

-- ---- one candidate

front : (l : List ℕ) → take 16 (drop 2 (take 20 l)) ≡ take 16 (drop 2 l)
front [] = refl
front (x ∷ []) = refl
front (x ∷ y ∷ l) = take-take 16 18 l (omega arith)

pub address_at_lem : (bytes : List ℕ) (i : ℕ) → address (take 20 (drop (20 * i) bytes)) ≡ take 16 (drop (20 * i + 2) bytes)
address_at_lem bytes i = front (drop (20 * i) bytes) ∙ ap (take 16) (drop-drop 2 (20 * i) bytes)

-- four bytes as a number, as the two definitions write it
four_bytes : (a b c d : ℕ) → 256 * (256 * (256 * a + b) + c) + d ≡ 16777216 * a + 65536 * b + 256 * c + d
four_bytes a b c d = omega arith

pub ipv4_of : (c : List ℕ) → ipv4 c ≡ ipv4_at c 0
unfolding ipv4 mapped ipv4_at
ipv4_of c = refl

pub prefix_of : (c : List ℕ) → prefix_group c ≡ prefix_at c 0
unfolding prefix_group prefix_at
prefix_of c =
    ap₂ (λ (t : Bool) (x : ℕ). cond t (4294967296 + prefix4 c) x) (ipv4_of c) (four_bytes (get_or c 2 0) (get_or c 3 0) (get_or c 4 0) (get_or c 5 0))

pub old-prefix_of : (c : List ℕ) → old_prefix_group c ≡ old_prefix_at c 0
unfolding old_prefix_group old_prefix_at
old-prefix_of c = ap (cond (eqb (get_or c 0 0) 4) (prefix4 c)) (four_bytes (get_or c 2 0) (get_or c 3 0) (get_or c 4 0) (get_or c 5 0))

byte : (bytes : List ℕ) (i k : ℕ) → k < 20 → get_or (take 20 (drop (20 * i) bytes)) k 0 ≡ get_or bytes (20 * i + k) 0
byte bytes i k h = get_or-take 20 (drop (20 * i) bytes) k 0 h ∙ get_or-drop (20 * i) bytes k 0

mapped_front_lem : (l : List ℕ) → take 12 (drop 2 (take 20 l)) ≡ take 12 (drop 2 l)
mapped_front_lem [] = refl
mapped_front_lem (x ∷ []) = refl
mapped_front_lem (x ∷ y ∷ l) = take-take 12 18 l (omega arith)

front_at : (bytes : List ℕ) (i : ℕ) → take 12 (drop 2 (take 20 (drop (20 * i) bytes))) ≡ take 12 (drop (20 * i + 2) bytes)
front_at bytes i = mapped_front_lem (drop (20 * i) bytes) ∙ ap (take 12) (drop-drop 2 (20 * i) bytes)

ipv4_at_lem : (bytes : List ℕ) (i : ℕ) → ipv4_at (take 20 (drop (20 * i) bytes)) 0 ≡ ipv4_at bytes i
unfolding ipv4_at
ipv4_at_lem bytes i = rw (byte bytes i 0 (omega arith), front_at bytes i)

pub prefix_at_lem : (bytes : List ℕ) (i : ℕ) → prefix_group (take 20 (drop (20 * i) bytes)) ≡ prefix_at bytes i
unfolding prefix_at
prefix_at_lem bytes i =
    prefix_of (take 20 (drop (20 * i) bytes))
    ∙ rw (
      ipv4_at_lem bytes i,
      byte bytes i 2 (omega arith),
      byte bytes i 3 (omega arith),
      byte bytes i 4 (omega arith),
      byte bytes i 5 (omega arith),
      byte bytes i 14 (omega arith),
      byte bytes i 15 (omega arith),
    )

pub old-prefix_at : (bytes : List ℕ) (i : ℕ) → old_prefix_group (take 20 (drop (20 * i) bytes)) ≡ old_prefix_at bytes i
unfolding old_prefix_at
old-prefix_at bytes i =
    old-prefix_of (take 20 (drop (20 * i) bytes))
    ∙ rw (
      byte bytes i 0 (omega arith),
      byte bytes i 2 (omega arith),
      byte bytes i 3 (omega arith),
      byte bytes i 4 (omega arith),
      byte bytes i 5 (omega arith),
      byte bytes i 14 (omega arith),
      byte bytes i 15 (omega arith),
    )

-- ---- what a candidate has to be

valid_of : (c : List ℕ) → length c ≡ 20 → Candidate c 0 → valid c ≡ true
unfolding valid mapped
valid_of c l k = by k.family
  where
    by : (get_or c 0 0 ≡ 6) ⊎ ((get_or c 0 0 ≡ 4) × (take 12 (drop 2 c) ≡ mapped_front)) → valid c ≡ true
    by (inl f) = rw (eq-eqb (length c) 20 l, eq-eqb (get_or c 1 0) 0 k.blank, eq-eqb (get_or c 0 0) 6 f)
    by (inr f) =
        rw (eq-eqb (length c) 20 l, eq-eqb (get_or c 1 0) 0 k.blank, ne_eqb (get_or c 0 0) 6 (λ z. omega (arith, f.0)), eq-eqb (get_or c 0 0) 4 f.0, f.1)

pub candidate_passes : (c : List ℕ) → length c ≡ 20 → Candidate c 0 → candidate_refusal c ≡ None
candidate_passes c l k = rw (valid_of c l k)

-- the one at a place, by itself
alone : (bytes : List ℕ) (i : ℕ) → Candidate bytes i → Candidate (take 20 (drop (20 * i) bytes)) 0
alone bytes i k =
    let z : 20 * i + 0 ≡ 20 * i = omega arith in
    let f : get_or (take 20 (drop (20 * i) bytes)) 0 0 ≡ get_or bytes (20 * i) 0 = byte bytes i 0 (omega arith) ∙ ap (λ (n : ℕ). get_or bytes n 0) z in
    record { blank = byte bytes i 1 (omega arith) ∙ k.blank; family = ⊎_elim (λ e. inl (f ∙ e)) (λ e. inr (f ∙ e.0, front_at bytes i ∙ e.1)) k.family }

all_valid_lem : (n : ℕ) (bytes : List ℕ) → ((i : ℕ) → i < n → valid (take 20 (drop (20 * i) bytes)) ≡ true) → all_valid (cut n bytes) ≡ true
all_valid_lem zero bytes h = refl
all_valid_lem (suc n) bytes h =
    let e : (i : ℕ) → drop (20 * suc i) bytes ≡ drop (20 * i) (drop 20 bytes)
    = λ i. let q : 20 * suc i ≡ 20 + 20 * i = omega arith in ap (λ (k : ℕ). drop k bytes) q ∙ sym (drop-drop (20 * i) 20 bytes) in
    let a = h 0 (omega arith) in
    let t = all_valid_lem n (drop 20 bytes) (λ i k. subst (λ (l : List ℕ). valid (take 20 l) ≡ true) (e i) (h (suc i) (omega arith))) in
    rw (a, t)

pub candidates-valid : (bytes : List ℕ) → ((i : ℕ) → i < length bytes / 20 → Candidate bytes i) → all_valid (candidates_of bytes) ≡ true
candidates-valid bytes h =
    all_valid_lem (length bytes / 20) bytes
    (λ i k. valid_of (take 20 (drop (20 * i) bytes)) (length-take-le 20 (drop (20 * i) bytes) (omega (arith, length-drop (20 * i) bytes))) (alone bytes i (h i k)))

-- ---- all of them

each_same : (n : ℕ) (f g : ℕ → ℕ) → ((i : ℕ) → f i ≡ g i) → each n f ≡ each n g
unfolding each
each_same zero f g h = refl
each_same (suc n) f g h = ap₂ ◌∷◌ (h 0) (each_same n (λ i. f (suc i)) (λ i. g (suc i)) (λ i. h (suc i)))

each-cut : (f : List ℕ → ℕ) (n : ℕ) (bytes : List ℕ) → map f (cut n bytes) ≡ each n (λ i. f (take 20 (drop (20 * i) bytes)))
unfolding each
each-cut f zero bytes = refl
each-cut f (suc n) bytes =
    ap (λ (l : List ℕ). f (take 20 bytes) ∷ l)
    (each-cut f n (drop 20 bytes)
    ∙ each_same n _ _ (λ i. let e : 20 + 20 * i ≡ 20 * suc i = omega arith in ap (λ (l : List ℕ). f (take 20 l)) (drop-drop (20 * i) 20 bytes ∙ ap (λ (k : ℕ). drop k bytes) e)))

-- f: what a candidate has; g: the same by its place
pub each_candidate : (f : List ℕ → ℕ) (g : ℕ → ℕ) (n : ℕ) (bytes : List ℕ) → ((i : ℕ) → f (take 20 (drop (20 * i) bytes)) ≡ g i) → map f (cut n bytes) ≡ each n g
each_candidate f g n bytes h = each-cut f n bytes ∙ each_same n _ g h

-- the first pass examines no more than there are
pub pass_examined : (occupied : List ℕ) (max : ℕ) (s : Pass) (gs : List ℕ) → (pass_from occupied max s gs).examined ≤ s.examined + length gs
pass_examined occupied max s [] = omega arith
pass_examined occupied max s (g ∷ gs) = go (ltb (length s.groups) max) (pass_examined occupied max (examine occupied g s) gs)
  where
    go : (b : Bool) → (pass_from occupied max (examine occupied g s) gs).examined ≤ (examine occupied g s).examined + length gs
        → (cond b (pass_from occupied max (examine occupied g s) gs) s).examined ≤ s.examined + suc (length gs)
    go true h = omega (arith, examine_count occupied g s)
    go false h = omega arith
