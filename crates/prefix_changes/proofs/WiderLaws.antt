-- The changes of two lists of pieces are the same among addresses of more bits: no prefix is longer than the shorter addresses, and of two
-- numbers times a power the one is less exactly where it was before.
-- Assumes nothing.
use Prim.Native.Nat.{ℕ, ◌+◌, ◌-◌, ◌*◌, ◌^◌, ◌≤◌}
use mathlib.Core.Bool.{Bool, ◌&&◌}
use mathlib.Core.Path.{◌≡◌, refl, sym, ap, ◌∙◌}
use mathlib.Core.List.{List, [], ◌∷◌, ◌++◌}
use lib.Dec.{ltb}
use lib.Pow.{pow_pos}
use Rattle.prefix_records.specs.Tiling.{Piece, first_of, past_of, Tiles}
use Rattle.prefix_records.proofs.TilingLaws.{wider, times_less}
use Rattle.prefix_changes.specs.Change.{Change, shared, overlap, differ, adding, against, changes}

module _ (w v : ℕ) (h : w ≤ v) where
  overlap_wider : (p q : Piece) → p.length ≤ w → q.length ≤ w → overlap w p q ≡ overlap v p q
  overlap_wider p q a b =
      let k = 2 ^ (v - w) in
      let f : (x y : Piece) → x.length ≤ w → y.length ≤ w → ltb (first_of w x) (past_of w y) ≡ ltb (first_of v x) (past_of v y) =
      λ x y c d. times_less (first_of w x) (past_of w y) k (pow_pos (v - w))
      ∙ ap (λ (n : ℕ). ltb n (past_of w y * k)) (sym (wider w v x.prefix x.length c h))
      ∙ ap (ltb (first_of v x)) (sym (wider w v (y.prefix + 1) y.length d h)) in
      ap (λ (t : Bool). t && ltb (first_of w q) (past_of w p)) (f p q a b) ∙ ap (λ (t : Bool). ltb (first_of v p) (past_of v q) && t) (f q p b a)

  against_wider : (p : Piece) → p.length ≤ w → (lo hi : ℕ) (qs : List Piece) → Tiles w lo hi qs → against w p qs ≡ against v p qs
  unfolding against
  against_wider p a lo hi [] t = refl
  against_wider p a lo hi (q ∷ qs) t =
      ap (λ (b : Bool). adding (b && differ p q) (shared p q) (against w p qs)) (overlap_wider p q a t.1)
      ∙ ap (adding (overlap v p q && differ p q) (shared p q)) (against_wider p a (past_of w q) hi qs t.2)

  -- two tilings of the addresses of w bits have the same changes among those of v bits
  pub changes_wider : (lo lo' hi hi' : ℕ) (ps qs : List Piece) → Tiles w lo hi ps → Tiles w lo' hi' qs → changes w ps qs ≡ changes v ps qs
  unfolding changes
  changes_wider lo lo' hi hi' [] qs s t = refl
  changes_wider lo lo' hi hi' (p ∷ ps) qs s t =
      ap (λ (cs : List Change). cs ++ changes w ps qs) (against_wider p s.1 lo' hi' qs t)
      ∙ ap (λ (cs : List Change). against v p qs ++ cs) (changes_wider (past_of w p) lo' hi hi' ps qs s.2 t)
