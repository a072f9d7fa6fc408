-- How many pieces a listing has: one for each RETURN and one for each bit of a MATCH among the instructions.
-- Assumes nothing.
use Prim.Native.Nat.{ℕ, zero, suc, ◌+◌, ◌-◌, ◌*◌, ◌≤◌}
use mathlib.Core.Bool.{Bool, true, false}
use mathlib.Core.Path.{◌≡◌, refl, sym, ap, ◌∙◌}
use mathlib.Core.List.{List, [], ◌∷◌, ◌++◌}
use native.Mathlib.Omega.{arith}
use lib.Dec.{eqb}
use lib.ListN.{length, length-append}
use Rattle.asmap_program.specs.declared.Instruction.{Instruction}
use Rattle.asmap_program.specs.declared.Previous.{Previous}
use Rattle.asmap_program.specs.declared.Previous.TheVariants.{Other, Default}
use Rattle.asmap_program.specs.Map.{RETURN, JUMP, MATCH, DEFAULT, end_of, target_of, Whole, Map, Laws, bit_of, length_of}
use Rattle.asmap_program.specs.Check.{after_match, check, unpacked}
use Rattle.asmap_program.specs.Tree.{Tree, return, jump, match, default}
use Rattle.asmap_program.proofs.Tree.{program, forward}
use Rattle.prefix_records.specs.Tiling.{Piece}
use Rattle.asmap_listing.specs.Listing.{piece, aside, sides, list_from, listing}
use Rattle.asmap_program.specs.models.Pieces.{pieces_at, count_pieces}
use Rattle.asmap_listing.proofs.ListingLaws.{spot, list_at}
use Rattle.asmap_program.specs.Verdict.{Accepted}

aside-length : (b : Bool) (p : Piece) (ps : List Piece) → length (aside b p ps) ≡ suc (length ps)
unfolding aside
aside-length true p ps = refl
aside-length false p ps = omega (arith, length-append ps (p ∷ []))

sides-length : (d c : ℕ) (rest : ℕ → List Piece) → ((q : ℕ) → length (rest q) ≡ c) → (n v path u : ℕ) → length (sides d rest n v path u) ≡ n + c
unfolding sides
sides-length d c rest h zero v path u = omega (arith, h path)
sides-length d c rest h (suc n) v path u =
    omega (arith, aside-length (eqb (bit_of v n) 1) (piece (2 * path + (1 - bit_of v n)) (suc u) d) (sides d rest n v (2 * path + bit_of v n) (suc u)), sides-length d c rest h n v (2 * path + bit_of v n) (suc u))

count-append : (is js : List Instruction) → count_pieces (is ++ js) ≡ count_pieces is + count_pieces js
unfolding count_pieces
count-append [] js = omega arith
count-append (i ∷ is) js = omega (arith, count-append is js)

count_at : (c : ℕ) (i : Instruction) (is : List Instruction) → i.opcode ≡ c → count_pieces (i ∷ is) ≡ pieces_at i c + count_pieces is
unfolding count_pieces
count_at c i is e = ap (λ (x : ℕ). pieces_at i x + count_pieces is) e

module _ (m : Map) where
  abbrev Counts : ℕ → ℕ → ℕ → ℕ → ℕ → List Instruction → Type 0
  Counts n at u path d is = length (list_from m n (spot at u path d)) ≡ count_pieces is

  counts-return : (n at u path d : ℕ) (i : Instruction) → m.fetch at ≡ Whole i → i.opcode ≡ RETURN → Counts (suc n) at u path d (i ∷ [])
  unfolding count_pieces
  counts-return n at u path d i f e = rw (list_at m n RETURN (spot at u path d) i f e) (sym (count_at RETURN i [] e))

  counts-jump : (n at u path d : ℕ) (i : Instruction) (is js : List Instruction) → m.fetch at ≡ Whole i → i.opcode ≡ JUMP
      → Counts n (end_of i) (suc u) (2 * path) d is → Counts n (target_of i) (suc u) (2 * path + 1) d js → Counts (suc n) at u path d (i ∷ (is ++ js))
  counts-jump n at u path d i is js f e h k =
      rw (list_at m n JUMP (spot at u path d) i f e)
      (length-append (list_from m n (spot (end_of i) (suc u) (2 * path) d)) (list_from m n (spot (target_of i) (suc u) (2 * path + 1) d))
      ∙ omega (arith, h, k, count_at JUMP i (is ++ js) e, count-append is js))

  counts-match : (n at u path d : ℕ) (i : Instruction) (is : List Instruction) → m.fetch at ≡ Whole i → i.opcode ≡ MATCH
      → ((q : ℕ) → Counts n (end_of i) (u + length_of i.operand) q d is) → Counts (suc n) at u path d (i ∷ is)
  counts-match n at u path d i is f e h =
      rw (list_at m n MATCH (spot at u path d) i f e)
      (sides-length d (count_pieces is) (λ (x : ℕ). list_from m n (spot (end_of i) (u + length_of i.operand) x d)) h (length_of i.operand) i.operand path u
      ∙ sym (count_at MATCH i is e))

  counts-default : (n at u path d : ℕ) (i : Instruction) (is : List Instruction) → m.fetch at ≡ Whole i → i.opcode ≡ DEFAULT
      → Counts n (end_of i) u path i.operand is → Counts (suc n) at u path d (i ∷ is)
  counts-default n at u path d i is f e h =
      rw (list_at m n DEFAULT (spot at u path d) i f e) (omega (arith, h, count_at DEFAULT i is e))

  module _ (law : Laws m) where
    pub tree_counts : {b : Previous} {at left end : ℕ} {is : List Instruction} → Tree m b at left end is
        → (f u path d : ℕ) → end ≤ at + f → Counts f at u path d is
    tree_counts t zero u path d h = let a = forward m law t in absurd (omega arith)
    tree_counts (return {at} {i} f e q) (suc n) u path d h = counts-return n at u path d i f e
    tree_counts {b} (jump {at} {i} {is} {js} f e q t t') (suc n) u path d h =
        let s = law.stands _ _ f in
        let z = forward m law t' in
        counts-jump n at u path d i is js f e
        (tree_counts {b = Other} t n (suc u) (2 * path) d (omega arith)) (tree_counts {b = Other} t' n (suc u) (2 * path + 1) d (omega arith))
    tree_counts {b} (match {at} {i} {is} f e q p t) (suc n) u path d h =
        let s = law.stands _ _ f in
        counts-match n at u path d i is f e λ x. tree_counts {b = after_match (length_of i.operand)} t n (u + length_of i.operand) x d (omega arith)
    tree_counts {b} (default {at} {i} {is} f e q t) (suc n) u path d h =
        let s = law.stands _ _ f in
        counts-default n at u path d i is f e (tree_counts {b = Default} t n u path i.operand (omega arith))

    pub listing_counted : {c d : ℕ} (w : ℕ) → check m w ≡ Accepted c d → length (listing m) ≡ count_pieces (unpacked m w)
    unfolding listing
    listing_counted w ok =
        let p = program m law w ok in
        let z = forward m law p.tree in
        tree_counts p.tree m.bits 0 0 0 (omega arith)
