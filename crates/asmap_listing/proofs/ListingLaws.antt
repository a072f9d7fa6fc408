-- The listing of an accepted map, of any width w: it tiles the addresses of w bits, and each address lies in just one piece, which has the
-- number of its walk. By induction on the tree.
-- Assumes nothing.
use Prim.Native.Nat.{ℕ, zero, suc, ◌+◌, ◌-◌, ◌*◌, ◌^◌, ◌≤◌, ◌<◌}
use mathlib.Core.Bool.{cond}
use mathlib.Core.Path.{◌≡◌, refl, sym, ap, subst, ◌∙◌}
use mathlib.Core.List.{List, [], ◌∷◌, ◌++◌}
use native.Mathlib.Nat.{add-zero, add-suc, suc-add, mod-lt, zero-mul, one-mul}
use native.Mathlib.Omega.{arith}
use lib.Dec.{eqb}
use borrow.Author.Tests.{lt-ltb, le-leb}
use Rattle.asmap_program.specs.declared.Instruction.{Instruction}
use Rattle.asmap_program.specs.declared.Previous.{Previous}
use Rattle.asmap_program.specs.declared.Previous.TheVariants.{Other, Default}
use Rattle.asmap_program.specs.Map.{RETURN, JUMP, MATCH, DEFAULT, end_of, target_of, Fetched, Whole, Map, Laws, bit_of, length_of}
use Rattle.asmap_program.specs.Check.{after_match, check}
use Rattle.asmap_program.specs.Tree.{Tree, return, jump, match, default}
use Rattle.asmap_program.specs.declared.Walker.{Walker}
use Rattle.asmap_program.specs.Walk.{Walked, Compared, Equal, Different, compared, enough, meeting, go_on, walk_from, walk}
use Rattle.asmap_program.proofs.Tree.{program, forward}
use Rattle.asmap_program.proofs.Demand.{walk_at}
use Rattle.prefix_records.specs.Tiling.{Piece, Tiles, Block, JustOne, number_of, Bits}
use Rattle.asmap_listing.specs.Listing.{piece, Lister, aside, sides, list_whole, list_on, list_from, listing}
use Rattle.prefix_records.proofs.TilingLaws.{block_halves, in-low, in_high, here}
use Rattle.asmap_program.specs.Verdict.{Accepted}

-- ---- a MATCH

aside-tiles : (b : ℕ) → b < 2 → (w d path u : ℕ) → u < w → (ps : List Piece) → Block w (2 * path + b) (suc u) ps
    → Block w path u (aside (eqb b 1) (piece (2 * path + (1 - b)) (suc u) d) ps)
unfolding aside
aside-tiles zero l w d path u h ps t = block_halves w u path h ps (piece (2 * path + 1) (suc u) d ∷ []) (rw (add-zero (2 * path)) at t) (refl, h, refl)
aside-tiles (suc zero) l w d path u h ps t = rw (add-zero (2 * path)) (block_halves w u path h (piece (2 * path) (suc u) d ∷ []) ps (refl, h, refl) t)
aside-tiles (suc (suc b)) l w d path u h ps t = absurd (omega arith)

sides-tiles : (w d : ℕ) (rest : ℕ → List Piece) (n v path u : ℕ) → u + n ≤ w
    → ((q : ℕ) → Block w q (u + n) (rest q)) → Block w path u (sides d rest n v path u)
unfolding sides
sides-tiles w d rest zero v path u h r = subst (λ (x : ℕ). Block w path x (rest path)) (add-zero u) (r path)
sides-tiles w d rest (suc n) v path u h r =
    aside-tiles (bit_of v n) (mod-lt _ (omega arith)) w d path u (omega arith) _
    (sides-tiles w d rest n v (2 * path + bit_of v n) (suc u) (omega arith)
    λ q. subst (λ (x : ℕ). Block w q x (rest q)) (add-suc u n ∙ sym (suc-add u n)) (r q))

-- the number after comparing
abbrev number_after : ℕ → ℕ → Compared → ℕ
number_after d n Equal = n
number_after d n (Different r) = d

module _ (a : ℕ → ℕ) (bits : Bits a) (w : ℕ) where
  aside_just : (b c : ℕ) → b < 2 → c < 2 → (d n u r : ℕ) → a u ≡ c → u < w → (t : Compared) (ps : List Piece)
      → Block w (2 * number_of a u + b) (suc u) ps
      → (b ≡ c → JustOne w (number_of a w) (number_after d n t) ps)
      → JustOne w (number_of a w) (number_after d n (cond (eqb b c) t (Different r))) (aside (eqb b 1) (piece (2 * number_of a u + (1 - b)) (suc u) d) ps)
  unfolding aside number_of
  aside_just zero zero l k d n u r e h t ps s j =
      in-low a bits w u _ h e ps (piece (2 * number_of a u + 1) (suc u) d ∷ []) (j refl) (refl, h, refl)
  aside_just zero (suc zero) l k d n u r e h t ps s j =
      in_high a bits w u d h e ps (piece (2 * number_of a u + 1) (suc u) d ∷ []) (rw (add-zero (2 * number_of a u)) at s)
      (here a bits w (suc u) d _ h (ap (λ (x : ℕ). 2 * number_of a u + x) (sym e)))
  aside_just (suc zero) zero l k d n u r e h t ps s j =
      in-low a bits w u d h e (piece (2 * number_of a u + 0) (suc u) d ∷ []) ps
      (here a bits w (suc u) d _ h (ap (λ (x : ℕ). 2 * number_of a u + x) (sym e))) s
  aside_just (suc zero) (suc zero) l k d n u r e h t ps s j =
      rw (add-zero (2 * number_of a u)) (in_high a bits w u _ h e (piece (2 * number_of a u) (suc u) d ∷ []) ps (refl, h, refl) (j refl))
  aside_just (suc (suc b)) c l k d n u r e h t ps s j = absurd (omega arith)
  aside_just zero (suc (suc c)) l k d n u r e h t ps s j = absurd (omega arith)
  aside_just (suc zero) (suc (suc c)) l k d n u r e h t ps s j = absurd (omega arith)

  sides_just : (d x : ℕ) (rest : ℕ → List Piece) (n v u : ℕ) → u + n ≤ w
      → ((q : ℕ) → Block w q (u + n) (rest q)) → JustOne w (number_of a w) x (rest (number_of a (u + n)))
      → JustOne w (number_of a w) (number_after d x (compared a n v u)) (sides d rest n v (number_of a u) u)
  unfolding sides compared number_of
  sides_just d x rest zero v u h r j =
      subst (λ (k : ℕ). JustOne w (number_of a w) x (rest (number_of a k))) (add-zero u) j
  sides_just d x rest (suc n) v u h r j =
      let g : (q : ℕ) → Block w q (suc u + n) (rest q) = λ q. subst (λ (k : ℕ). Block w q k (rest q)) (add-suc u n ∙ sym (suc-add u n)) (r q) in
      let i = sides_just d x rest n v (suc u) (omega arith) g
      (subst (λ (k : ℕ). JustOne w (number_of a w) x (rest (number_of a k))) (add-suc u n ∙ sym (suc-add u n)) j) in
      aside_just (bit_of v n) (a u) (mod-lt _ (omega arith)) (bits u) d x u (suc u) refl (omega arith) (compared a n v (suc u))
      (sides d rest n v (2 * number_of a u + bit_of v n) (suc u))
      (sides-tiles w d rest n v (2 * number_of a u + bit_of v n) (suc u) (omega arith) g)
      λ e. subst (λ (k : ℕ). JustOne w (number_of a w) (number_after d x (compared a n v (suc u))) (sides d rest n v (2 * number_of a u + k) (suc u))) (sym e) i

-- ---- a tree

abbrev pub spot : ℕ → ℕ → ℕ → ℕ → Lister
spot at u path d = record { at = at; used = u; path = path; default = d }

module _ (m : Map) where
  -- the list at an instruction
  pub list_at : (n k : ℕ) (s : Lister) (i : Instruction) → m.fetch s.at ≡ Whole i → i.opcode ≡ k
      → list_from m (suc n) s ≡ list_whole (list_from m n) s i k
  unfolding list_from
  list_at n k s i f e =
      ap (λ (r : Fetched). list_on (list_from m n) s r) f ∙ ap (λ (c : ℕ). list_whole (list_from m n) s i c) e

  module _ (law : Laws m) (w : ℕ) where
    -- the list of a tree from the path on tiles what begins with the path
    pub tree-tiles : {b : Previous} {at left end : ℕ} {is : List Instruction} → Tree m b at left end is
        → (f u path d : ℕ) → end ≤ at + f → u + left ≡ w → Block w path u (list_from m f (spot at u path d))
    tree-tiles t zero u path d h k = let a = forward m law t in absurd (omega arith)
    tree-tiles (return {at} {i} f e q) (suc n) u path d h k =
        let l : u ≤ w = omega arith in
        rw (list_at n RETURN (spot at u path d) i f e) (refl, l, refl)
    tree-tiles {b} (jump {at} {i} f e q t t') (suc n) u path d h k =
        let s = law.stands _ _ f in
        let a = forward m law t' in
        rw (list_at n JUMP (spot at u path d) i f e)
        (block_halves w u path (omega arith) (list_from m n (spot (end_of i) (suc u) (2 * path) d)) (list_from m n (spot (target_of i) (suc u) (2 * path + 1) d))
        (tree-tiles {b = Other} t n (suc u) (2 * path) d (omega arith) (omega arith)) (tree-tiles {b = Other} t' n (suc u) (2 * path + 1) d (omega arith) (omega arith)))
    tree-tiles {b} (match {at} {i} f e q p t) (suc n) u path d h k =
        let s = law.stands _ _ f in
        rw (list_at n MATCH (spot at u path d) i f e)
        (sides-tiles w d (λ (x : ℕ). list_from m n (spot (end_of i) (u + length_of i.operand) x d)) (length_of i.operand) i.operand path u (omega arith)
        λ x. tree-tiles {b = after_match (length_of i.operand)} t n (u + length_of i.operand) x d (omega arith) (omega arith))
    tree-tiles {b} (default {at} {i} f e q t) (suc n) u path d h k =
        let s = law.stands _ _ f in
        rw (list_at n DEFAULT (spot at u path d) i f e) (tree-tiles {b = Default} t n u path i.operand (omega arith) k)

-- the number of a walk at a MATCH
met : (k : Walker → Walked) (s : Walker) (i : Instruction) (c : Compared)
    → (go_on k (meeting s i c)).number ≡ number_after s.default (k (record { at = end_of i; used = s.used + length_of i.operand; width = s.width; default = s.default })).number c
met k s i Equal = refl
met k s i (Different r) = refl

module _ (a : ℕ → ℕ) (bits : Bits a) (m : Map) (law : Laws m) (w : ℕ) where
  -- in the pieces ps the address lies in just one, with the number of this walk
  abbrev Just : Walked → List Piece → Type 0
  Just r ps = JustOne w (number_of a w) r.number ps

  abbrev Walk : ℕ → ℕ → ℕ → ℕ → Walked
  Walk n at u d = walk_from a m n (record { at = at; used = u; width = w; default = d })

  just-jump : (c : ℕ) → c < 2 → (n at u d : ℕ) (i : Instruction) → m.fetch at ≡ Whole i → i.opcode ≡ JUMP → u < w → a u ≡ c
      → (xs ys : List Piece) → Block w (2 * number_of a u) (suc u) xs → Block w (2 * number_of a u + 1) (suc u) ys
      → (c ≡ 0 → Just (Walk n (end_of i) (suc u) d) xs) → (c ≡ 1 → Just (Walk n (target_of i) (suc u) d) ys)
      → Just (Walk (suc n) at u d) (xs ++ ys)
  unfolding enough
  just-jump zero l n at u d i f e h c xs ys s t j j' =
      rw (walk_at a m law w n JUMP u d i f e, lt-ltb u w h, c) (in-low a bits w u _ h c xs ys (j refl) t)
  just-jump (suc zero) l n at u d i f e h c xs ys s t j j' =
      rw (walk_at a m law w n JUMP u d i f e, lt-ltb u w h, c) (in_high a bits w u _ h c xs ys s (j' refl))
  just-jump (suc (suc c)) l n at u d i f e h x xs ys s t j j' = absurd (omega arith)

  just-match : (n at u d : ℕ) (i : Instruction) → m.fetch at ≡ Whole i → i.opcode ≡ MATCH → u + length_of i.operand ≤ w
      → (rest : ℕ → List Piece) → ((q : ℕ) → Block w q (u + length_of i.operand) (rest q))
      → Just (Walk n (end_of i) (u + length_of i.operand) d) (rest (number_of a (u + length_of i.operand)))
      → Just (Walk (suc n) at u d) (sides d rest (length_of i.operand) i.operand (number_of a u) u)
  unfolding enough
  just-match n at u d i f e h rest r j =
      rw (walk_at a m law w n MATCH u d i f e, le-leb (u + length_of i.operand) w h, met (walk_from a m n) (record { at = at; used = u; width = w; default = d }) i (compared a (length_of i.operand) i.operand u))
      (sides_just a bits w d _ rest (length_of i.operand) i.operand u h r j)

  low : (u : ℕ) → a u ≡ 0 → number_of a (suc u) ≡ 2 * number_of a u
  unfolding number_of
  low u c = omega arith

  high : (u : ℕ) → a u ≡ 1 → number_of a (suc u) ≡ 2 * number_of a u + 1
  unfolding number_of
  high u c = omega arith

  abbrev List_at : ℕ → ℕ → ℕ → ℕ → ℕ → List Piece
  List_at n at u path d = list_from m n (spot at u path d)

  -- a row for each instruction, over variables alone: what `tree_just` says of what follows is handed in
  row-return : (n at u d : ℕ) (i : Instruction) → m.fetch at ≡ Whole i → i.opcode ≡ RETURN → u ≤ w
      → Just (Walk (suc n) at u d) (List_at (suc n) at u (number_of a u) d)
  row-return n at u d i f e h =
      rw (list_at m n RETURN (spot at u (number_of a u) d) i f e, walk_at a m law w n RETURN u d i f e) (here a bits w u i.operand _ h refl)

  row-jump : (n at u d : ℕ) (i : Instruction) → m.fetch at ≡ Whole i → i.opcode ≡ JUMP → u < w
      → ((path : ℕ) → Block w path (suc u) (List_at n (end_of i) (suc u) path d)) → ((path : ℕ) → Block w path (suc u) (List_at n (target_of i) (suc u) path d))
      → Just (Walk n (end_of i) (suc u) d) (List_at n (end_of i) (suc u) (number_of a (suc u)) d)
      → Just (Walk n (target_of i) (suc u) d) (List_at n (target_of i) (suc u) (number_of a (suc u)) d)
      → Just (Walk (suc n) at u d) (List_at (suc n) at u (number_of a u) d)
  row-jump n at u d i f e h s t j j' =
      rw (list_at m n JUMP (spot at u (number_of a u) d) i f e)
      (just-jump (a u) (bits u) n at u d i f e h refl (List_at n (end_of i) (suc u) (2 * number_of a u) d) (List_at n (target_of i) (suc u) (2 * number_of a u + 1) d)
      (s (2 * number_of a u)) (t (2 * number_of a u + 1))
      (λ c. subst (λ (x : ℕ). Just (Walk n (end_of i) (suc u) d) (List_at n (end_of i) (suc u) x d)) (low u c) j)
      λ c. subst (λ (x : ℕ). Just (Walk n (target_of i) (suc u) d) (List_at n (target_of i) (suc u) x d)) (high u c) j')

  row-match : (n at u d : ℕ) (i : Instruction) → m.fetch at ≡ Whole i → i.opcode ≡ MATCH → u + length_of i.operand ≤ w
      → ((path : ℕ) → Block w path (u + length_of i.operand) (List_at n (end_of i) (u + length_of i.operand) path d))
      → Just (Walk n (end_of i) (u + length_of i.operand) d) (List_at n (end_of i) (u + length_of i.operand) (number_of a (u + length_of i.operand)) d)
      → Just (Walk (suc n) at u d) (List_at (suc n) at u (number_of a u) d)
  row-match n at u d i f e h t j =
      rw (list_at m n MATCH (spot at u (number_of a u) d) i f e)
      (just-match n at u d i f e h (λ (x : ℕ). List_at n (end_of i) (u + length_of i.operand) x d) t j)

  row-default : (n at u d : ℕ) (i : Instruction) → m.fetch at ≡ Whole i → i.opcode ≡ DEFAULT
      → Just (Walk n (end_of i) u i.operand) (List_at n (end_of i) u (number_of a u) i.operand)
      → Just (Walk (suc n) at u d) (List_at (suc n) at u (number_of a u) d)
  row-default n at u d i f e j =
      rw (list_at m n DEFAULT (spot at u (number_of a u) d) i f e, walk_at a m law w n DEFAULT u d i f e) j

  -- the walk of the address through a tree, and the list of the tree from its first u bits on
  pub tree_just : {b : Previous} {at left end : ℕ} {is : List Instruction} → Tree m b at left end is
      → (f u d : ℕ) → end ≤ at + f → u + left ≡ w
      → Just (Walk f at u d) (List_at f at u (number_of a u) d)
  tree_just t zero u d h k = let a = forward m law t in absurd (omega arith)
  tree_just (return {at} {i} f e q) (suc n) u d h k = row-return n at u d i f e (omega arith)
  tree_just {b} (jump {at} {i} f e q t t') (suc n) u d h k =
      let s = law.stands _ _ f in
      let z = forward m law t' in
      row-jump n at u d i f e (omega arith)
      (λ x. tree-tiles m law w t n (suc u) x d (omega arith) (omega arith)) (λ x. tree-tiles m law w t' n (suc u) x d (omega arith) (omega arith))
      (tree_just {b = Other} t n (suc u) d (omega arith) (omega arith)) (tree_just {b = Other} t' n (suc u) d (omega arith) (omega arith))
  tree_just {b} (match {at} {i} f e q p t) (suc n) u d h k =
      let s = law.stands _ _ f in
      row-match n at u d i f e (omega arith)
      (λ x. tree-tiles m law w t n (u + length_of i.operand) x d (omega arith) (omega arith))
      (tree_just {b = after_match (length_of i.operand)} t n (u + length_of i.operand) d (omega arith) (omega arith))
  tree_just {b} (default {at} {i} f e q t) (suc n) u d h k =
      let s = law.stands _ _ f in
      row-default n at u d i f e (tree_just {b = Default} t n u i.operand (omega arith) k)

-- ---- the laws

module _ (m : Map) (law : Laws m) (w : ℕ) {c d : ℕ} (ok : check m w ≡ Accepted c d) where
  -- the listing of an accepted map tiles the addresses
  pub listing-tiles : Tiles w 0 (2 ^ w) (listing m)
  unfolding listing
  listing-tiles =
      let p = program m law w ok in
      let z = forward m law p.tree in
      let t = tree-tiles m law w p.tree m.bits 0 0 0 (omega arith) (omega arith) in
      let e : w - 0 ≡ w = omega arith in
      let l : 0 * 2 ^ (w - 0) ≡ 0 = zero-mul (2 ^ (w - 0)) in
      let g : 1 * 2 ^ (w - 0) ≡ 2 ^ w = one-mul (2 ^ (w - 0)) ∙ ap (λ (n : ℕ). 2 ^ n) e in
      subst (λ (x : ℕ). Tiles w 0 x (listing m)) g (subst (λ (x : ℕ). Tiles w x (1 * 2 ^ (w - 0)) (listing m)) l t)

  -- each address, by its bits, lies in just one piece, and that one has the number of its walk
  pub listing-walks : (a : ℕ → ℕ) → Bits a → JustOne w (number_of a w) (walk a m w).number (listing m)
  unfolding listing walk number_of
  listing-walks a bits =
      let p = program m law w ok in
      let z = forward m law p.tree in
      tree_just a bits m law w p.tree m.bits 0 0 (omega arith) (omega arith)
