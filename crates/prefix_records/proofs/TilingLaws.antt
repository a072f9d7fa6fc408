-- What follows from a tiling, whatever made it: an address below its start or from its end on lies in no piece of it, one between lies in
-- just one; two tilings that meet are one. And where an address lies whose first bits are known.
-- Assumes nothing.
use Rattle.std.proofs.Common.{◌≡◌, ℕ, zero, suc, ◌+◌, ◌-◌, ◌*◌, ◌^◌, ◌<◌, ◌≤◌, Bool, true, false, ◌&&◌, ltb, leb, List, [], ◌∷◌, ◌++◌, sym, refl, ap, ◌∙◌, subst, add-zero, add-suc, mul-le-mul_right, mul_assoc, suc-mul, mul-lt-mul_of_pos_right, zero-mul, mul-one, mul_left_comm, arith, pow_pos, pow-add, ltb-false, ltb-true, le-ltb, lt-ltb, le-leb, leb-false, leb-true}
use native.Mathlib.Nat.{pow-succ'}
use borrow.Author.Tests.{lt-leb}
use Rattle.prefix_records.specs.Tiling.{Piece, first_of, past_of, Tiles, Block, holds, keep, holding, JustOne, number_of, Bits}

-- ---- numbers

twice : (x k : ℕ) → x * (2 * k) ≡ 2 * x * k
twice x k = mul_left_comm x 2 k ∙ sym (mul_assoc 2 x k)

-- the addresses behind u bits, as those behind one bit more
halves : (w u path : ℕ) → u < w
    → (path * 2 ^ (w - u) ≡ 2 * path * 2 ^ (w - suc u)) × ((path + 1) * 2 ^ (w - u) ≡ (2 * path + 1 + 1) * 2 ^ (w - suc u))
halves w u path h =
    let e : w - u ≡ suc (w - suc u) = omega arith in
    let p : 2 ^ (w - u) ≡ 2 * 2 ^ (w - suc u) = ap (λ (n : ℕ). 2 ^ n) e ∙ pow-succ' 2 (w - suc u) in
    let q : 2 * (path + 1) ≡ 2 * path + 1 + 1 = omega arith in (
      ap (λ (k : ℕ). path * k) p ∙ twice path (2 ^ (w - suc u)),
      ap (λ (k : ℕ). (path + 1) * k) p ∙ twice (path + 1) (2 ^ (w - suc u)) ∙ ap (λ (k : ℕ). k * 2 ^ (w - suc u)) q,
    )

-- a piece has an address
pub some : (w : ℕ) (p : Piece) → first_of w p < past_of w p
some w p = omega (arith, suc-mul p.prefix (2 ^ (w - p.length)), pow_pos (w - p.length))

-- ---- tilings

pub tiles-append : (w lo mid hi : ℕ) (xs ys : List Piece) → Tiles w lo mid xs → Tiles w mid hi ys → Tiles w lo hi (xs ++ ys)
tiles-append w lo mid hi [] ys s t = rw s t
tiles-append w lo mid hi (p ∷ xs) ys s t = (s.0, s.1, tiles-append w (past_of w p) mid hi xs ys s.2 t)

pub tiles_le : (w lo hi : ℕ) (ps : List Piece) → Tiles w lo hi ps → lo ≤ hi
tiles_le w lo hi [] t = omega arith
tiles_le w lo hi (p ∷ ps) t = omega (arith, t.0, some w p, tiles_le w (past_of w p) hi ps t.2)

-- the two halves of a block
pub block_halves : (w u path : ℕ) → u < w → (xs ys : List Piece)
    → Block w (2 * path) (suc u) xs → Block w (2 * path + 1) (suc u) ys → Block w path u (xs ++ ys)
block_halves w u path h xs ys s t =
    let e = halves w u path h in
    rw (e.0, e.1) (tiles-append w _ _ _ xs ys s t)

-- ---- the same pieces among longer addresses

-- a prefix's first address of more bits has zeros behind the one of fewer
pub wider : (w v x l : ℕ) → l ≤ w → w ≤ v → x * 2 ^ (v - l) ≡ x * 2 ^ (w - l) * 2 ^ (v - w)
wider w v x l h k =
    let e : v - l ≡ (w - l) + (v - w) = omega arith in
    ap (λ (n : ℕ). x * 2 ^ n) e ∙ ap (λ (n : ℕ). x * n) (pow-add 2 (w - l) (v - w)) ∙ sym (mul_assoc x (2 ^ (w - l)) (2 ^ (v - w)))

tiles_wider : (w v lo hi : ℕ) → w ≤ v → (ps : List Piece) → Tiles w lo hi ps → Tiles v (lo * 2 ^ (v - w)) (hi * 2 ^ (v - w)) ps
tiles_wider w v lo hi h [] t = ap (λ (n : ℕ). n * 2 ^ (v - w)) t
tiles_wider w v lo hi h (p ∷ ps) t = (
  wider w v p.prefix p.length t.1 h ∙ ap (λ (n : ℕ). n * 2 ^ (v - w)) t.0,
  omega (arith, t.1),
  subst (λ (n : ℕ). Tiles v n (hi * 2 ^ (v - w)) ps) (sym (wider w v (p.prefix + 1) p.length t.1 h)) (tiles_wider w v (past_of w p) hi h ps t.2),
)

-- pieces that tile all addresses of w bits tile all those of more
pub tiles_all : (w v : ℕ) → w ≤ v → (ps : List Piece) → Tiles w 0 (2 ^ w) ps → Tiles v 0 (2 ^ v) ps
tiles_all w v h ps t =
    let e : w + (v - w) ≡ v = omega arith in
    let q : 2 ^ w * 2 ^ (v - w) ≡ 2 ^ v = sym (pow-add 2 w (v - w)) ∙ ap (λ (n : ℕ). 2 ^ n) e in
    subst (λ (n : ℕ). Tiles v 0 n ps) q
    (subst (λ (n : ℕ). Tiles v n (2 ^ w * 2 ^ (v - w)) ps) (zero-mul (2 ^ (v - w))) (tiles_wider w v 0 (2 ^ w) h ps t))

-- of two numbers times another the one is less, or at most the other, exactly where it was
pub times_less : (x y k : ℕ) → 0 < k → ltb x y ≡ ltb (x * k) (y * k)
times_less x y k h = go (ltb x y) refl
  where
    go : (b : Bool) → ltb x y ≡ b → b ≡ ltb (x * k) (y * k)
    go true e = sym (lt-ltb (x * k) (y * k) (mul-lt-mul_of_pos_right (ltb-true x y e) h))
    go false e = sym (le-ltb (x * k) (y * k) (mul-le-mul_right k (ltb-false x y e)))

times_most : (x y k : ℕ) → 0 < k → leb x y ≡ leb (x * k) (y * k)
times_most x y k h = go (leb x y) refl
  where
    go : (b : Bool) → leb x y ≡ b → b ≡ leb (x * k) (y * k)
    go true e = sym (le-leb (x * k) (y * k) (mul-le-mul_right k (leb-true x y e)))
    go false e = sym (lt-leb (x * k) (y * k) (mul-lt-mul_of_pos_right (leb-false x y e) h))

-- an address of w bits lies in the same pieces as the one with zeros behind it
holds_wider : (w v x : ℕ) → w ≤ v → (p : Piece) → p.length ≤ w → holds w x p ≡ holds v (x * 2 ^ (v - w)) p
holds_wider w v x h p l =
    let k = 2 ^ (v - w) in
    let z = pow_pos (v - w) in
    ap (λ (b : Bool). b && ltb x (past_of w p)) (times_most (first_of w p) x k z ∙ ap (λ (n : ℕ). leb n (x * k)) (sym (wider w v p.prefix p.length l h)))
    ∙ ap (λ (b : Bool). leb (first_of v p) (x * k) && b) (times_less x (past_of w p) k z ∙ ap (ltb (x * k)) (sym (wider w v (p.prefix + 1) p.length l h)))

pub holding_wider : (w v x lo hi : ℕ) → w ≤ v → (ps : List Piece) → Tiles w lo hi ps → holding w x ps ≡ holding v (x * 2 ^ (v - w)) ps
unfolding holding
holding_wider w v x lo hi h [] t = refl
holding_wider w v x lo hi h (p ∷ ps) t =
    ap (λ (b : Bool). keep b p (holding w x ps)) (holds_wider w v x h p t.1)
    ∙ ap (keep (holds v (x * 2 ^ (v - w)) p) p) (holding_wider w v x (past_of w p) hi h ps t.2)

-- ---- where an address lies

pub and-false : (b : Bool) → (b && false) ≡ false
and-false true = refl
and-false false = refl

pub none_before : (w lo hi x : ℕ) (ps : List Piece) → Tiles w lo hi ps → x < lo → holding w x ps ≡ []
unfolding holding keep
none_before w lo hi x [] t h = refl
none_before w lo hi x (p ∷ ps) t h =
    rw (lt-leb (first_of w p) x (omega (arith, t.0)))
    (none_before w (past_of w p) hi x ps t.2 (omega (arith, t.0, some w p)))

pub none_past : (w lo hi x : ℕ) (ps : List Piece) → Tiles w lo hi ps → hi ≤ x → holding w x ps ≡ []
unfolding holding keep
none_past w lo hi x [] t h = refl
none_past w lo hi x (p ∷ ps) t h =
    rw (le-ltb x (past_of w p) (omega (arith, tiles_le w (past_of w p) hi ps t.2)), and-false (leb (first_of w p) x))
    (none_past w (past_of w p) hi x ps t.2 h)

kept : (w x : ℕ) (p : Piece) (ps : List Piece) → first_of w p ≤ x → x < past_of w p → holding w x (p ∷ ps) ≡ p ∷ holding w x ps
unfolding holding keep
kept w x p ps h k = rw (le-leb (first_of w p) x h, lt-ltb x (past_of w p) k)

passed : (w x : ℕ) (p : Piece) (ps : List Piece) → past_of w p ≤ x → holding w x (p ∷ ps) ≡ holding w x ps
unfolding holding keep
passed w x p ps h = rw (le-ltb x (past_of w p) h, and-false (leb (first_of w p) x))

-- every address from the start to below the end of a tiling lies in just one piece of it
pub just_one : (w lo hi x : ℕ) (ps : List Piece) → Tiles w lo hi ps → lo ≤ x → x < hi → (n : ℕ) × JustOne w x n ps
just_one w lo hi x [] t h k = absurd (omega (arith, t))
just_one w lo hi x (p ∷ ps) t h k = go (ltb x (past_of w p)) refl λ l. just_one w (past_of w p) hi x ps t.2 l k
  where
    go : (b : Bool) → ltb x (past_of w p) ≡ b → (past_of w p ≤ x → (n : ℕ) × JustOne w x n ps) → (n : ℕ) × JustOne w x n (p ∷ ps)
    go true e more =
        let l = ltb-true x (past_of w p) e in (
          p.number,
          record {
            piece = p;
            only = kept w x p ps (omega (arith, t.0)) l ∙ ap (λ (l : List Piece). p ∷ l) (none_before w (past_of w p) hi x ps t.2 l);
            number = refl;
          },
        )
    go false e more =
        let l = ltb-false x (past_of w p) e in
        let r = more l in
        (r.0, record { piece = r.1.piece; only = passed w x p ps l ∙ r.1.only; number = r.1.number })

-- ---- just one, in two lists

keep_append : (b : Bool) (p : Piece) (xs ys : List Piece) → keep b p (xs ++ ys) ≡ keep b p xs ++ ys
unfolding keep
keep_append true p xs ys = refl
keep_append false p xs ys = refl

pub holding-append : (w x : ℕ) (xs ys : List Piece) → holding w x (xs ++ ys) ≡ holding w x xs ++ holding w x ys
unfolding holding
holding-append w x [] ys = refl
holding-append w x (p ∷ xs) ys =
    ap (λ (l : List Piece). keep (holds w x p) p l) (holding-append w x xs ys) ∙ keep_append (holds w x p) p (holding w x xs) (holding w x ys)

pub one_left : (w x n : ℕ) (xs ys : List Piece) → JustOne w x n xs → holding w x ys ≡ [] → JustOne w x n (xs ++ ys)
one_left w x n xs ys s e = record { piece = s.piece; only = holding-append w x xs ys ∙ rw (s.only, e); number = s.number }

pub one_right : (w x n : ℕ) (xs ys : List Piece) → holding w x xs ≡ [] → JustOne w x n ys → JustOne w x n (xs ++ ys)
one_right w x n xs ys e s = record { piece = s.piece; only = holding-append w x xs ys ∙ rw (e, s.only); number = s.number }

-- ---- an address by its bits

module _ (a : ℕ → ℕ) (bits : Bits a) where
  -- an address lies among those that begin with its first u bits
  placed : (u k : ℕ) → (number_of a u * 2 ^ k ≤ number_of a (u + k)) × (number_of a (u + k) < (number_of a u + 1) * 2 ^ k)
  unfolding number_of
  placed u zero =
      let e : number_of a (u + 0) ≡ number_of a u = ap (number_of a) (add-zero u) in
      (omega (arith, mul-one (number_of a u)), omega (arith, mul-one (number_of a u + 1)))
  placed u (suc k) =
      let r = placed u k in
      let n : number_of a (u + suc k) ≡ 2 * number_of a (u + k) + a (u + k) = ap (number_of a) (add-suc u k) in
      let p = pow-succ' 2 k in
      let e : number_of a u * 2 ^ suc k ≡ 2 * (number_of a u * 2 ^ k) = ap (λ (n : ℕ). number_of a u * n) p ∙ mul_left_comm (number_of a u) 2 (2 ^ k) in
      let g : (number_of a u + 1) * 2 ^ suc k ≡ 2 * ((number_of a u + 1) * 2 ^ k) =
      ap (λ (n : ℕ). (number_of a u + 1) * n) p ∙ mul_left_comm (number_of a u + 1) 2 (2 ^ k) in
      (omega (arith, r.0, e), omega (arith, r.1, g, bits (u + k)))

  pub placed_in : (w u : ℕ) → u ≤ w → (number_of a u * 2 ^ (w - u) ≤ number_of a w) × (number_of a w < (number_of a u + 1) * 2 ^ (w - u))
  placed_in w u h =
      let e : u + (w - u) ≡ w = omega arith in
      rw e at (placed u (w - u))

  -- where the next bit is 0 the address lies in the lower half, where it is 1 in the upper one
  pub in-low : (w u n : ℕ) → u < w → a u ≡ 0 → (xs ys : List Piece)
      → JustOne w (number_of a w) n xs → Block w (2 * number_of a u + 1) (suc u) ys → JustOne w (number_of a w) n (xs ++ ys)
  unfolding number_of
  in-low w u n h e xs ys s t =
      let r : number_of a w < (2 * number_of a u + 1) * 2 ^ (w - suc u) = rw (e, add-zero (2 * number_of a u)) at (placed_in w (suc u) h).1 in
      one_left w (number_of a w) n xs ys s (none_before w _ _ (number_of a w) ys t r)

  pub in_high : (w u n : ℕ) → u < w → a u ≡ 1 → (xs ys : List Piece)
      → Block w (2 * number_of a u) (suc u) xs → JustOne w (number_of a w) n ys → JustOne w (number_of a w) n (xs ++ ys)
  unfolding number_of
  in_high w u n h e xs ys s t =
      let r : (2 * number_of a u + 1) * 2 ^ (w - suc u) ≤ number_of a w = rw e at (placed_in w (suc u) h).0 in
      one_right w (number_of a w) n xs ys (none_past w _ _ (number_of a w) xs s r) t

  -- a piece whose prefix is the address's first bits
  pub here : (w u n path : ℕ) → u ≤ w → path ≡ number_of a u
      → JustOne w (number_of a w) n (record { prefix = path; length = u; number = n } ∷ [])
  unfolding holding
  here w u n path h e =
      let r = placed_in w u h in
      rw e
      record {
        piece = record { prefix = number_of a u; length = u; number = n };
        only = kept w (number_of a w) (record { prefix = number_of a u; length = u; number = n }) [] r.0 r.1;
        number = refl;
      }
