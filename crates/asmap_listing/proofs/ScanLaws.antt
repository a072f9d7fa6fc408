-- One pass over the instructions of an accepted map gives the leaves of its listing, and what is still to come is never more than the address
-- bits used.
-- Assumes nothing.
use Prim.Native.Nat.{ℕ, zero, suc, ◌+◌, ◌-◌, ◌*◌, ◌≤◌, ◌<◌}
use mathlib.Core.Bool.{Bool, true, false}
use mathlib.Core.Path.{◌≡◌, refl, sym, ap, ◌∙◌}
use mathlib.Core.List.{List, [], ◌∷◌, ◌++◌, append_assoc, append-nil}
use native.Mathlib.Nat.{add-zero, add-suc, suc-add}
use native.Mathlib.Omega.{arith}
use lib.Dec.{eqb, ltb, leb}
use borrow.Author.Tests.{lt-ltb, le-leb}
use lib.ListN.{length}
use Rattle.asmap_program.specs.declared.Instruction.{Instruction}
use Rattle.asmap_program.specs.declared.Previous.{Previous}
use Rattle.asmap_program.specs.declared.Previous.TheVariants.{Other, Default}
use Rattle.asmap_program.specs.Map.{RETURN, JUMP, MATCH, DEFAULT, end_of, target_of, Fetched, Whole, CutOpcode, CutOperand, Map, Laws, bit_of, length_of}
use Rattle.asmap_program.specs.Check.{after_match, check}
use Rattle.asmap_program.specs.Tree.{Tree, return, jump, match, default}
use Rattle.asmap_program.proofs.Tree.{program, forward}
use Rattle.prefix_records.specs.Tiling.{Piece}
use Rattle.asmap_listing.specs.Listing.{piece, aside, sides, list_from, listing}
use Rattle.asmap_listing.specs.models.Scan.{Leaf, leaf, leaves, Entry, Side, Half, Scan, scan_start, popped, taken, given, bitwise, enough, scan_whole, scan_on, scan_from, scanned, bit_of_entry, Rising}
use Rattle.asmap_listing.proofs.ListingLaws.{spot, list_at}
use Rattle.asmap_program.specs.Verdict.{Accepted}

leaves-append : (xs ys : List Piece) → leaves (xs ++ ys) ≡ leaves xs ++ leaves ys
unfolding leaves
leaves-append [] ys = refl
leaves-append (p ∷ xs) ys = ap (λ (l : List Leaf). leaf p.length p.number ∷ l) (leaves-append xs ys)

pub leaves-length : (ps : List Piece) → length (leaves ps) ≡ length ps
unfolding leaves
leaves-length [] = refl
leaves-length (p ∷ ps) = omega (arith, leaves-length ps)

abbrev scanning : ℕ → ℕ → List Entry → Scan
scanning u d st = record { used = u; default = d; stack = st }

-- ---- a MATCH

bit_scans : (b : Bool) (u d path : ℕ) (st : List Entry) (k k' : Scan → List Leaf) (ls : List Leaf) (ps : List Piece)
    → ls ≡ leaves ps ++ popped k' (taken b (scanning u d st)).stack
    → given b (scanning u d st) ls ≡ leaves (aside b (piece path (suc u) d) ps) ++ popped k' st
unfolding given taken popped aside leaves
bit_scans true u d path st k k' ls ps e = ap (λ (l : List Leaf). leaf (suc u) d ∷ l) e
bit_scans false u d path st k k' ls ps e =
    e ∙ sym (append_assoc (leaves ps) (leaf (suc u) d ∷ []) (popped k' st))
    ∙ ap (λ (l : List Leaf). l ++ popped k' st) (sym (leaves-append ps (piece path (suc u) d ∷ [])))

taken_as : (b : Bool) (u d : ℕ) (st : List Entry) → taken b (scanning u d st) ≡ scanning (suc u) d (taken b (scanning u d st)).stack
unfolding taken
taken_as true u d st = refl
taken_as false u d st = refl

match_scans : (k k' : Scan → List Leaf) (rest : ℕ → List Piece) (d n v path u : ℕ) (st : List Entry)
    → ((q : ℕ) (st' : List Entry) → k (scanning (u + n) d st') ≡ leaves (rest q) ++ popped k' st')
    → bitwise k n v (scanning u d st) ≡ leaves (sides d rest n v path u) ++ popped k' st
unfolding bitwise sides
match_scans k k' rest d zero v path u st h = ap (λ (x : ℕ). k (scanning x d st)) (sym (add-zero u)) ∙ h path st
match_scans k k' rest d (suc n) v path u st h =
    bit_scans (eqb (bit_of v n) 1) u d _ st k k' _ (sides d rest n v (2 * path + bit_of v n) (suc u))
    (ap (λ (s : Scan). bitwise k n v s) (taken_as (eqb (bit_of v n) 1) u d st)
    ∙ match_scans k k' rest d n v (2 * path + bit_of v n) (suc u) (taken (eqb (bit_of v n) 1) (scanning u d st)).stack
    λ q st'. ap (λ (x : ℕ). k (scanning x d st')) (suc-add u n ∙ sym (add-suc u n)) ∙ h q st')

-- ---- fuel is never short

popped_alike : (k k' : Scan → List Leaf) → ((s : Scan) → k s ≡ k' s) → (st : List Entry) → popped k st ≡ popped k' st
unfolding popped
popped_alike k k' h [] = refl
popped_alike k k' h (Side u n ∷ st) = ap (λ (l : List Leaf). leaf (suc u) n ∷ l) (popped_alike k k' h st)
popped_alike k k' h (Half u d ∷ st) = h _

bitwise_alike : (k k' : Scan → List Leaf) → ((s : Scan) → k s ≡ k' s) → (n v : ℕ) (s : Scan) → bitwise k n v s ≡ bitwise k' n v s
unfolding bitwise
bitwise_alike k k' h zero v s = h s
bitwise_alike k k' h (suc n) v s = ap (λ (l : List Leaf). given (eqb (bit_of v n) 1) s l) (bitwise_alike k k' h n v _)

whole_alike : (w : ℕ) (k k' : Scan → List Leaf) → ((s : Scan) → k s ≡ k' s) → (s : Scan) (i : Instruction) (c : ℕ) → scan_whole w k s i c ≡ scan_whole w k' s i c
whole_alike w k k' h s i zero = ap (λ (l : List Leaf). leaf s.used i.operand ∷ l) (popped_alike k k' h s.stack)
whole_alike w k k' h s i (suc zero) = ap (λ (l : List Leaf). enough (ltb s.used w) l) (h _)
whole_alike w k k' h s i (suc (suc zero)) =
    ap (λ (l : List Leaf). enough (leb (s.used + length_of i.operand) w) l) (bitwise_alike k k' h (length_of i.operand) i.operand s)
whole_alike w k k' h s i (suc (suc (suc n))) = h _

module _ (m : Map) (law : Laws m) (w : ℕ) where
  on_alike : (at : ℕ) (k k' : ℕ → Scan → List Leaf) → ((p : ℕ) (s : Scan) → at < p → k p s ≡ k' p s)
      → (s : Scan) (r : Fetched) → m.fetch at ≡ r → scan_on w k s r ≡ scan_on w k' s r
  on_alike at k k' h s (Whole i) f =
      let a = law.stands _ _ f in
      whole_alike w (k (end_of i)) (k' (end_of i)) (λ s'. h (end_of i) s' (omega arith)) s i i.opcode
  on_alike at k k' h s CutOpcode f = refl
  on_alike at k k' h s (CutOperand op) f = refl

  off_end : (at : ℕ) (k : ℕ → Scan → List Leaf) (s : Scan) → m.bits ≤ at → (r : Fetched) → m.fetch at ≡ r → scan_on w k s r ≡ []
  off_end at k s h (Whole i) f = let a = law.stands _ _ f in absurd (omega arith)
  off_end at k s h CutOpcode f = refl
  off_end at k s h (CutOperand op) f = refl

  scan-enough : (f g at : ℕ) (s : Scan) → m.bits ≤ at + f → m.bits ≤ at + g → scan_from m w f at s ≡ scan_from m w g at s
  unfolding scan_from
  scan-enough zero zero at s h k = refl
  scan-enough zero (suc g) at s h k = sym (off_end at (scan_from m w g) s (omega arith) (m.fetch at) refl)
  scan-enough (suc f) zero at s h k = off_end at (scan_from m w f) s (omega arith) (m.fetch at) refl
  scan-enough (suc f) (suc g) at s h k =
      on_alike at (scan_from m w f) (scan_from m w g) (λ p s' l. scan-enough f g p s' (omega arith) (omega arith)) s (m.fetch at) refl

  -- the leaves from a place on, by what can be read there
  pub scanned-step : (at : ℕ) (s : Scan) → scanned m w at s ≡ scan_on w (scanned m w) s (m.fetch at)
  unfolding scanned scan_from
  scanned-step at s =
      scan-enough (m.bits - at) (suc (m.bits - at)) at s (omega arith) (omega arith)
      ∙ on_alike at _ _ (λ p s' l. scan-enough (m.bits - at) (m.bits - p) p s' (omega arith) (omega arith)) s (m.fetch at) refl

  pub scanned_at : (c at : ℕ) (s : Scan) (i : Instruction) → m.fetch at ≡ Whole i → i.opcode ≡ c → scanned m w at s ≡ scan_whole w (scanned m w (end_of i)) s i c
  scanned_at c at s i f e =
      scanned-step at s ∙ ap (λ (r : Fetched). scan_on w (scanned m w) s r) f ∙ ap (λ (x : ℕ). scan_whole w (scanned m w (end_of i)) s i x) e

  -- ---- a tree

  abbrev Scans : ℕ → ℕ → ℕ → ℕ → ℕ → ℕ → Type 0
  Scans n at u path d end = (st : List Entry)
      → scanned m w at (scanning u d st) ≡ leaves (list_from m n (spot at u path d)) ++ popped (scanned m w end) st

  scans-return : (n at u path d : ℕ) (i : Instruction) → m.fetch at ≡ Whole i → i.opcode ≡ RETURN → Scans (suc n) at u path d (end_of i)
  unfolding leaves
  scans-return n at u path d i f e st = rw (list_at m n RETURN (spot at u path d) i f e) (scanned_at RETURN at (scanning u d st) i f e)

  scans-jump : (n at u path d end : ℕ) (i : Instruction) → m.fetch at ≡ Whole i → i.opcode ≡ JUMP → u < w
      → Scans n (end_of i) (suc u) (2 * path) d (target_of i) → Scans n (target_of i) (suc u) (2 * path + 1) d end
      → Scans (suc n) at u path d end
  unfolding popped enough
  scans-jump n at u path d end i f e l h k st =
      let xs = list_from m n (spot (end_of i) (suc u) (2 * path) d) in
      let ys = list_from m n (spot (target_of i) (suc u) (2 * path + 1) d) in
      rw (list_at m n JUMP (spot at u path d) i f e)
      (scanned_at JUMP at (scanning u d st) i f e
      ∙ ap (λ (b : Bool). enough b (scanned m w (end_of i) (scanning (suc u) d (Half u d ∷ st)))) (lt-ltb u w l)
      ∙ h (Half u d ∷ st)
      ∙ ap (λ (l : List Leaf). leaves xs ++ l) (k st)
      ∙ sym (append_assoc (leaves xs) (leaves ys) (popped (scanned m w end) st))
      ∙ ap (λ (l : List Leaf). l ++ popped (scanned m w end) st) (sym (leaves-append xs ys)))

  scans-match : (n at u path d end : ℕ) (i : Instruction) → m.fetch at ≡ Whole i → i.opcode ≡ MATCH → u + length_of i.operand ≤ w
      → ((q : ℕ) → Scans n (end_of i) (u + length_of i.operand) q d end) → Scans (suc n) at u path d end
  unfolding enough
  scans-match n at u path d end i f e l h st =
      rw (list_at m n MATCH (spot at u path d) i f e)
      (scanned_at MATCH at (scanning u d st) i f e
      ∙ ap (λ (b : Bool). enough b (bitwise (scanned m w (end_of i)) (length_of i.operand) i.operand (scanning u d st))) (le-leb (u + length_of i.operand) w l)
      ∙ match_scans (scanned m w (end_of i)) (scanned m w end) (λ (x : ℕ). list_from m n (spot (end_of i) (u + length_of i.operand) x d)) d (length_of i.operand) i.operand path u st
      λ q st'. h q st')

  scans-default : (n at u path d end : ℕ) (i : Instruction) → m.fetch at ≡ Whole i → i.opcode ≡ DEFAULT
      → Scans n (end_of i) u path i.operand end → Scans (suc n) at u path d end
  scans-default n at u path d end i f e h st =
      rw (list_at m n DEFAULT (spot at u path d) i f e) (scanned_at DEFAULT at (scanning u d st) i f e ∙ h st)

  pub tree_scans : {b : Previous} {at left end : ℕ} {is : List Instruction} → Tree m b at left end is
      → (f u path d : ℕ) → end ≤ at + f → u + left ≤ w → Scans f at u path d end
  tree_scans t zero u path d h k = let a = forward m law t in absurd (omega arith)
  tree_scans (return {at} {i} f e q) (suc n) u path d h k = scans-return n at u path d i f e
  tree_scans {b} (jump {at} {end} {i} f e q t t') (suc n) u path d h k =
      let s = law.stands _ _ f in
      let z = forward m law t' in
      scans-jump n at u path d end i f e (omega arith)
      (tree_scans {b = Other} t n (suc u) (2 * path) d (omega arith) (omega arith)) (tree_scans {b = Other} t' n (suc u) (2 * path + 1) d (omega arith) (omega arith))
  tree_scans {b} (match {at} {end} {i} f e q p t) (suc n) u path d h k =
      let s = law.stands _ _ f in
      scans-match n at u path d end i f e (omega arith) λ x. tree_scans {b = after_match (length_of i.operand)} t n (u + length_of i.operand) x d (omega arith) (omega arith)
  tree_scans {b} (default {at} {end} {i} f e q t) (suc n) u path d h k =
      let s = law.stands _ _ f in
      scans-default n at u path d end i f e (tree_scans {b = Default} t n u path i.operand (omega arith) k)

  -- the leaves of the listing, in one pass with room for w address bits, of a map that is accepted at w bits or fewer
  pub listing_scanned : {c d : ℕ} (v : ℕ) → v ≤ w → check m v ≡ Accepted c d → scanned m w 0 scan_start ≡ leaves (listing m)
  unfolding listing popped
  listing_scanned v l ok =
      let p = program m law v ok in
      let z = forward m law p.tree in
      tree_scans p.tree m.bits 0 0 0 (omega arith) (omega arith) []
      ∙ append-nil _

-- ---- how much is still to come

pub stack_bound : (u : ℕ) (st : List Entry) → Rising u st → length st ≤ u
stack_bound u [] h = omega arith
stack_bound u (e ∷ st) h = omega (arith, h.0, stack_bound (bit_of_entry e) st h.1)
