-- The pass's four turns: what all bits will be stays the same. And when a subtree is a RETURN, said by the run of one number that ends where
-- the subtree ends.
-- Assumes nothing.
use Prim.Native.Nat.{ℕ, zero, suc, ◌+◌, ◌-◌, ◌*◌, ◌/◌, ◌%◌, ◌^◌, ◌≤◌, ◌<◌}
use mathlib.Core.Bool.{Bool, true, false}
use mathlib.Core.Path.{◌≡◌, refl, sym, ap, ◌∙◌}
use mathlib.Core.Logic.{◌≢◌}
use mathlib.Core.List.{List, [], ◌++◌, append_assoc, append-nil}
use native.Mathlib.Omega.{arith}
use native.Mathlib.Nat.{mod-lt}
use lib.Dec.{eqb}
use lib.Pow as pow
use lib.ListN.{length, get_or, set, length-append}
use lib.Seq.{get_or-set_same, get_or-set_other}
use borrow.Author.Tests.{eq-eqb, ne_eqb}
use Rattle.asmap_program.specs.Map.{JUMP}
use Rattle.asmap_codes.specs.Encode.{pick_bits, instruction_bits}
use Rattle.asmap_shapes.specs.Shape.{Shape, Leaf, shape, bits_of}
use Rattle.asmap_build.specs.models.Pass.{beside, whole}
use Rattle.asmap_shapes.proofs.ShapeLaws.{join_law, all-leaf, leaf_all}

-- ---- in a subtree: the addresses from p * 2 ^ k to below (p + 1) * 2 ^ k

pub inside : (a k p : ℕ) → a / 2 ^ k ≡ p → (p * 2 ^ k ≤ a) × (a < p * 2 ^ k + 2 ^ k)
inside a k p e =
    let s = pow.split a k in
    let l = mod-lt a (pow.pow_pos k) in
    let q : a / 2 ^ k * 2 ^ k ≡ p * 2 ^ k = ap (λ (x : ℕ). x * 2 ^ k) e in
    (omega arith, omega arith)

pub within : (a k p : ℕ) → p * 2 ^ k ≤ a → a < p * 2 ^ k + 2 ^ k → a / 2 ^ k ≡ p
within a k p h l =
    let e : a ≡ p * 2 ^ k + (a - p * 2 ^ k) = omega arith in
    ap (λ (x : ℕ). x / 2 ^ k) e ∙ pow.high p k (omega arith)

module _ (f : ℕ → ℕ) where
  -- a run of one number that ends where the subtree ends and starts at or before its start: RETURN
  pub leaf_here : (k p c n : ℕ) → ((a : ℕ) → c ≤ a → a < p * 2 ^ k + 2 ^ k → f a ≡ n) → c ≤ p * 2 ^ k → shape f k p ≡ Leaf n
  leaf_here k p c n h l = all-leaf f k p n (λ a e. let i = inside a k p e in h a (omega arith) i.1)

  -- one that starts within the subtree, with another number before it: no RETURN
  pub fork_here : (k p c n : ℕ) → ((a : ℕ) → c ≤ a → a < p * 2 ^ k + 2 ^ k → f a ≡ n) → p * 2 ^ k < c → c < p * 2 ^ k + 2 ^ k
      → f (c - 1) ≢ n → (m : ℕ) → shape f k p ≢ Leaf m
  fork_here k p c n h l g d m e =
      let x : f c ≡ m = leaf_all f k p m e c (within c k p (omega arith) g) in
      let y : f (c - 1) ≡ m = leaf_all f k p m e (c - 1) (within (c - 1) k p (omega arith) (omega arith)) in
      d (y ∙ sym x ∙ h c (omega arith) g)

  -- what a JUMP over two halves is, of a shape that is no RETURN
  abbrev Halves : ℕ → ℕ → Shape → Type 0
  Halves k p t = ((m : ℕ) → t ≢ Leaf m)
      → bits_of t ≡ instruction_bits JUMP (length (bits_of (shape f k (2 * p)))) ++ (bits_of (shape f k (2 * p)) ++ bits_of (shape f k (2 * p + 1)))

  -- no RETURN: two halves, and an address bit for them
  pub fork_halves : (k p : ℕ) → ((m : ℕ) → shape f k p ≢ Leaf m) → (1 ≤ k) × (bits_of (shape f k p)
      ≡ instruction_bits JUMP (length (bits_of (shape f (k - 1) (2 * p)))) ++ (bits_of (shape f (k - 1) (2 * p)) ++ bits_of (shape f (k - 1) (2 * p + 1))))
  unfolding shape bits_of
  fork_halves zero p h = absurd (h (f p) refl)
  fork_halves (suc k) p h =
      let e : suc k - 1 ≡ k = omega arith in
      (omega arith, rw e (join_law (Halves k p) (shape f k (2 * p)) (shape f k (2 * p + 1)) (λ _. refl) (λ n x q g. absurd (g n refl)) h))

  module _ (w : ℕ) where
    -- ---- the four turns

    -- from the start: the whole tree is the subtree of no bits
    pub whole_start : (starts : List ℕ) → bits_of (shape f w 0) ≡ whole f w starts 0 0 (bits_of (shape f (w - 0) 0) ++ [])
    unfolding whole
    whole_start starts = let e : w - 0 ≡ w = omega arith in rw e (sym (append-nil (bits_of (shape f w 0))))

    -- down to the half with bit 1
    pub whole-down : (starts : List ℕ) (d p : ℕ) (behind : List ℕ) → ((m : ℕ) → shape f (w - d) p ≢ Leaf m)
        → whole f w starts d p (bits_of (shape f (w - d) p) ++ behind) ≡ whole f w starts (suc d) (2 * p + 1) (bits_of (shape f (w - suc d) (2 * p + 1)) ++ behind)
    unfolding whole
    whole-down starts d p behind h =
        let b = fork_halves (w - d) p h in
        let k : w - d - 1 ≡ w - suc d = omega arith in
        let Z = bits_of (shape f (w - suc d) (2 * p)) in
        let O = bits_of (shape f (w - suc d) (2 * p + 1)) in
        let J = instruction_bits JUMP (length Z) in
        let q : bits_of (shape f (w - d) p) ≡ J ++ (Z ++ O) = rw k at b.1 in
        let e : eqb ((2 * p + 1) % 2) 0 ≡ false = ne_eqb ((2 * p + 1) % 2) 0 (omega arith) in
        let g : (2 * p + 1) / 2 ≡ p = omega arith in
        let i : 2 * p + 1 - 1 ≡ 2 * p = omega arith in
        rw (e, g, i, q) (ap (whole f w starts d p) (append_assoc J (Z ++ O) behind ∙ ap (λ (l : List ℕ). J ++ l) (append_assoc Z O behind)))

    -- up from a half with bit 0: its JUMP
    pub whole-zero : (starts : List ℕ) (d p : ℕ) (behind : List ℕ) → p % 2 ≡ 0
        → whole f w starts (suc d) p behind ≡ whole f w starts d (p / 2) (instruction_bits JUMP (length behind - get_or starts (suc d) 0) ++ behind)
    unfolding whole
    whole-zero starts d p behind e = rw (eq-eqb (p % 2) 0 e)

    -- what is noted for deeper subtrees does not matter
    whole-noted : (starts : List ℕ) (d p : ℕ) (behind : List ℕ) (i n : ℕ) → d < i → whole f w starts d p behind ≡ whole f w (set starts i n) d p behind
    unfolding whole
    whole-noted starts zero p behind i n h = refl
    whole-noted starts (suc d) p behind i n h =
        rw (get_or-set_other starts i (suc d) n 0 (λ e. omega arith)) (whole-noted starts d (p / 2) _ i n (omega arith))

    -- from a half with bit 1 to the one beside it
    pub whole_one : (starts : List ℕ) (d p : ℕ) (behind : List ℕ) → p % 2 ≡ 1 → suc d < length starts
        → whole f w starts (suc d) p behind ≡ whole f w (set starts (suc d) (length behind)) (suc d) (p - 1) (bits_of (shape f (w - suc d) (p - 1)) ++ behind)
    unfolding whole
    whole_one starts d p behind e h =
        let Z = bits_of (shape f (w - suc d) (p - 1)) in
        let x : eqb (p % 2) 0 ≡ false = ne_eqb (p % 2) 0 (omega arith) in
        let y : eqb ((p - 1) % 2) 0 ≡ true = eq-eqb ((p - 1) % 2) 0 (omega arith) in
        let g : (p - 1) / 2 ≡ p / 2 = omega arith in
        let s : length (Z ++ behind) - length behind ≡ length Z = omega (arith, length-append Z behind) in
        rw (x, y, g, get_or-set_same starts (suc d) (length behind) 0 h, s)
        (whole-noted starts d (p / 2) (instruction_bits JUMP (length Z) ++ (Z ++ behind)) (suc d) (length behind) (omega arith))

    -- the bits only grow: what is over the limit stays over it
    pub whole_long : (starts : List ℕ) (d p : ℕ) (behind : List ℕ) → length behind ≤ length (whole f w starts d p behind)
    unfolding whole
    whole_long starts zero p behind = omega arith
    whole_long starts (suc d) p behind = go (eqb (p % 2) 0) (λ l. whole_long starts d (p / 2) l)
      where
        go : (x : Bool) → ((l : List ℕ) → length l ≤ length (whole f w starts d (p / 2) l))
            → length behind ≤ length (whole f w starts d (p / 2) (pick_bits x
            (instruction_bits JUMP (length behind - get_or starts (suc d) 0) ++ behind)
            (instruction_bits JUMP (length (beside f w (suc d) p)) ++ (beside f w (suc d) p ++ behind))))
        go true k =
            let J = instruction_bits JUMP (length behind - get_or starts (suc d) 0) in
            let l = length-append J behind in
            let i = k (J ++ behind) in
            omega (arith, l, i)
        go false k =
            let Z = beside f w (suc d) p in
            let J = instruction_bits JUMP (length Z) in
            let l = length-append J (Z ++ behind) in
            let m = length-append Z behind in
            let i = k (J ++ (Z ++ behind)) in
            omega (arith, l, m, i)
