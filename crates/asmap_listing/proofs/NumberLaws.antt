-- The numbers of a listing are operands of the map, or 0: what bounds every operand bounds them.
-- Assumes nothing.
use Prim.Native.Nat.{ℕ, zero, suc, ◌+◌, ◌-◌, ◌*◌, ◌<◌}
use mathlib.Core.Bool.{Bool, true, false}
use mathlib.Core.Path.{◌≡◌, refl}
use mathlib.Core.List.{List, [], ◌∷◌, ◌++◌}
use lib.Dec.{eqb}
use Rattle.asmap_program.specs.declared.Instruction.{Instruction}
use Rattle.asmap_program.specs.Map.{end_of, Fetched, Whole, CutOpcode, CutOperand, Map, bit_of, length_of}
use Rattle.prefix_records.specs.Tiling.{Piece}
use Rattle.prefix_records.proofs.PlaceLaws.{At}
use Rattle.asmap_listing.specs.Listing.{piece, Lister, list_start, aside, sides, list_whole, list_on, list_from, listing}

-- each number is below n
abbrev Below : ℕ → List Piece → Type 0
Below n [] = Unit {0}
Below n (p ∷ ps) = (p.number < n) × Below n ps

below-append : (n : ℕ) (xs ys : List Piece) → Below n xs → Below n ys → Below n (xs ++ ys)
below-append n [] ys h k = k
below-append n (p ∷ xs) ys h k = (h.0, below-append n xs ys h.1 k)

below-aside : (n : ℕ) (b : Bool) (p : Piece) (ps : List Piece) → p.number < n → Below n ps → Below n (aside b p ps)
unfolding aside
below-aside n true p ps h k = (h, k)
below-aside n false p ps h k = below-append n ps (p ∷ []) k (h, tt)

below-sides : (n d : ℕ) (rest : ℕ → List Piece) → d < n → ((q : ℕ) → Below n (rest q)) → (l v path u : ℕ) → Below n (sides d rest l v path u)
unfolding sides
below-sides n d rest h k zero v path u = k path
below-sides n d rest h k (suc l) v path u =
    below-aside n (eqb (bit_of v l) 1) (piece (2 * path + (1 - bit_of v l)) (suc u) d) _ h (below-sides n d rest h k l v (2 * path + bit_of v l) (suc u))

below-whole : (n : ℕ) (k : Lister → List Piece) → ((s : Lister) → s.default < n → Below n (k s))
    → (s : Lister) → s.default < n → (i : Instruction) → i.operand < n → (c : ℕ) → Below n (list_whole k s i c)
below-whole n k more s h i l zero = (l, tt)
below-whole n k more s h i l (suc zero) = below-append n (k _) (k _) (more _ h) (more _ h)
below-whole n k more s h i l (suc (suc zero)) =
    below-sides n s.default _ h (λ q. more (record { at = end_of i; used = s.used + length_of i.operand; path = q; default = s.default }) h) (length_of i.operand) i.operand s.path s.used
below-whole n k more s h i l (suc (suc (suc c))) = more _ l

module _ (m : Map) (n : ℕ) (small : (p : ℕ) (i : Instruction) → m.fetch p ≡ Whole i → i.operand < n) where
  below_on : (k : Lister → List Piece) → ((s : Lister) → s.default < n → Below n (k s)) → (s : Lister) → s.default < n
      → (f : Fetched) → m.fetch s.at ≡ f → Below n (list_on k s f)
  below_on k more s h (Whole i) e = below-whole n k more s h i (small s.at i e) i.opcode
  below_on k more s h CutOpcode e = tt
  below_on k more s h (CutOperand op) e = tt

  below_from : (f : ℕ) (s : Lister) → s.default < n → Below n (list_from m f s)
  unfolding list_from
  below_from zero s h = tt
  below_from (suc f) s h = below_on (list_from m f) (λ s' h'. below_from f s' h') s h (m.fetch s.at) refl

  below_at : (ps : List Piece) → Below n ps → (j : ℕ) (q : Piece) → At ps j q → q.number < n
  below_at [] b j q a = absurd a
  below_at (p ∷ ps) b zero q a = rw (← a) b.0
  below_at (p ∷ ps) b (suc j) q a = below_at ps b.1 j q a

  -- of the piece at any place
  pub number-below : 0 < n → (j : ℕ) (q : Piece) → At (listing m) j q → q.number < n
  unfolding listing
  number-below h j q a = below_at (listing m) (below_from m.bits list_start h) j q a
