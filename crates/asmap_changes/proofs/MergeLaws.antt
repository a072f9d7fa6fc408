-- The loop over two listings: how it stands, and each way on from there. 2 ^ 128 is a variable where it is compared. Assumes nothing.
use Prim.Native.Nat.{ℕ, ◌+◌, ◌^◌, ◌≤◌, ◌<◌}
use mathlib.Core.Bool.{Bool, true, false, not, ◌&&◌}
use mathlib.Core.Path.{◌≡◌, refl, sym, ap, subst, ◌∙◌}
use mathlib.Core.List.{List, [], ◌∷◌}
use native.Mathlib.Omega.{arith}
use lib.Dec.{ltb, eqb}
use lib.ListN.{length}
use borrow.Author.Tests.{ltb-true, ltb-false, ne_eqb, eqb-true, eqb-false}
use Rattle.prefix_records.specs.Tiling.{Piece, first_of, past_of, Tiles}
use Rattle.prefix_records.specs.models.Cursor.{value_of}
use Rattle.prefix_records.proofs.AddressLaws.{same_address}
use Rattle.prefix_records.proofs.TilingLaws.{some, tiles_le}
use Rattle.prefix_changes.specs.Change.{Change, adding, against, changes}
use Rattle.prefix_changes.proofs.ChangeLaws.{nested, test, old_first, new_first, both_first, changes_none, changes_few}
use Rattle.asmap_codes.specs.Instruction.{map_of}
use Rattle.asmap_listing.specs.Listing.{listing}
use Rattle.asmap_list_step.specs.declared.Spot.{Spot}
use Rattle.asmap_list_step.proofs.StepLaws.{start_spot}
use Rattle.asmap_changes.specs.Changes.{changes_of}
use Rattle.asmap_changes.specs.declared.Front.{Front}
use Rattle.asmap_changes.specs.declared.Found.{Found}
use Rattle.asmap_changes.specs.models.Side.{Ready, most_changes, Coming, Split, First, Paired, Noted, Roomy, RoomFor, Whole}
use Rattle.asmap_changes.proofs.PairLaws.{start_coming, Tally, tally_start, tally_whole, Pair, tested, noted}

-- ---- how it stands

pub record Standing (old new : List ℕ) (writes : Bool) (out₀ out old-bits old-numbers new-bits new-numbers : List ℕ) (f : Found) (o n : Front) : Type 0 where
  pub piece_old : Piece
  pub piece_new : Piece
  pub behind_old : List Piece
  pub behind_new : List Piece
  pub pair : Pair old new o n old-bits old-numbers new-bits new-numbers piece_old piece_new behind_old behind_new
  pub tally : Tally writes out₀ out f (changes 128 (piece_old ∷ behind_old) (piece_new ∷ behind_new)) (changes_of old new 128)

-- pieces that begin at one address overlap
start_lap : (p q : Piece) → first_of 128 p ≡ first_of 128 q → (first_of 128 p < past_of 128 q) × (first_of 128 q < past_of 128 p)
start_lap p q e = (omega (arith, e, some 128 q), omega (arith, e, some 128 p))

pub start_standing : (old new : List ℕ) (writes : Bool) (out ob on nb nn : List ℕ) (f : Found) (o n : Front) → Ready old → Ready new → Paired old new o n ob on nb nn
    → f ≡ record { pieces = 0; first = record { high = 0; low = 0 } } → Standing old new writes out out ob on nb nn f o n
start_standing old new writes out ob on nb nn f o n r s x e =
    let p = x.old_split in
    let q = x.new_split in
    let t : Tiles 128 0 (2 ^ 128) (p.piece ∷ p.behind) = subst (Tiles 128 0 (2 ^ 128)) p.parts r.tiles in
    let u : Tiles 128 0 (2 ^ 128) (q.piece ∷ q.behind) = subst (Tiles 128 0 (2 ^ 128)) q.parts s.tiles in
    record {
      piece_old = p.piece;
      piece_new = q.piece;
      behind_old = p.behind;
      behind_new = q.behind;
      pair = record { fore_old = p.fore; fore_new = q.fore; lap = start_lap p.piece q.piece (t.0 ∙ sym u.0) };
      tally =
          subst (λ (g : Found). Tally writes out out g (changes 128 (p.piece ∷ p.behind) (q.piece ∷ q.behind)) (changes_of old new 128)) (sym e)
          (subst (λ (l : List Change). Tally writes out out (record { pieces = 0; first = record { high = 0; low = 0 } }) l (changes_of old new 128))
          (ap (λ (l : List Piece). changes 128 l (listing (map_of new))) p.parts ∙ ap (changes 128 (p.piece ∷ p.behind)) q.parts)
          (tally_start writes out (changes_of old new 128)));
    }

-- ---- room and number of changes

pub few_changes : (old new : List ℕ) → Ready old → Ready new → length (changes_of old new 128) ≤ most_changes
few_changes old new r s = omega (arith, r.few, s.few, changes_few 128 0 0 (2 ^ 128) (2 ^ 128) (listing (map_of old)) (listing (map_of new)) r.tiles s.tiles)

one_at_least : (p q : Piece) (ps qs : List Piece) → test 128 p q ≡ true → 1 ≤ length (changes 128 (p ∷ ps) (q ∷ qs))
unfolding changes against adding
one_at_least p q ps qs e = rw e (omega arith)

room_for_one : (writes : Bool) (k n : ℕ) (out out' : List ℕ) → RoomFor writes n out → length out' ≡ length out → k + 1 ≤ n → Roomy writes k out'
room_for_one true k n out out' h e l = omega (arith, h, e, l)
room_for_one false k n out out' h e l = tt

-- ---- where both end

-- v and u stand for x and y, with 0 for the address behind all
stands_one : (v u x y top : ℕ) → (x < top → v ≡ x) → (x ≡ top → v ≡ 0) → (y < top → u ≡ y) → (y ≡ top → u ≡ 0)
    → 0 < x → 0 < y → x ≤ top → y ≤ top → v ≡ u → x ≡ y
stands_one v u x y top a b c d h k l m e = go (ltb x top) refl (ltb y top) refl
  where
    go : (s : Bool) → ltb x top ≡ s → (t : Bool) → ltb y top ≡ t → x ≡ y
    go true f true g = sym (a (ltb-true x top f)) ∙ e ∙ c (ltb-true y top g)
    go true f false g = absurd (omega (arith, a (ltb-true x top f), d (omega (arith, ltb-false y top g))))
    go false f true g = absurd (omega (arith, b (omega (arith, ltb-false x top f)), c (ltb-true y top g)))
    go false f false g = omega (arith, ltb-false x top f, ltb-false y top g)

stands_same : (v u x y top : ℕ) → (x < top → v ≡ x) → (x ≡ top → v ≡ 0) → (y < top → u ≡ y) → (y ≡ top → u ≡ 0) → x ≤ top → x ≡ y → v ≡ u
stands_same v u x y top a b c d l e = go (ltb x top) refl
  where
    go : (s : Bool) → ltb x top ≡ s → v ≡ u
    go true f = let z = ltb-true x top f in a z ∙ e ∙ sym (c (subst (λ (i : ℕ). i < top) e z))
    go false f = let z : x ≡ top = omega (arith, ltb-false x top f) in b z ∙ sym (d (sym e ∙ z))

strictly : (x y : ℕ) → x ≤ y → (x ≡ y → ⊥) → x < y
strictly x y h d = go (ltb x y) refl
  where
    go : (s : Bool) → ltb x y ≡ s → x < y
    go true f = ltb-true x y f
    go false f = absurd (d (omega (arith, ltb-false x y f)))

module _ {old new : List ℕ} {o n : Front} {ob on nb nn : List ℕ} {p q : Piece} {ps qs : List Piece} (a : Pair old new o n ob on nb nn p q ps qs) where
  ends_old : past_of 128 p ≤ 2 ^ 128
  ends_old = tiles_le 128 (past_of 128 p) (2 ^ 128) ps a.fore_old.tiles.2

  ends_new : past_of 128 q ≤ 2 ^ 128
  ends_new = tiles_le 128 (past_of 128 q) (2 ^ 128) qs a.fore_new.tiles.2

  same_end : eqb (value_of o.end) (value_of n.end) ≡ true → past_of 128 p ≡ past_of 128 q
  same_end e =
      stands_one (value_of o.end) (value_of n.end) (past_of 128 p) (past_of 128 q) (2 ^ 128)
      a.fore_old.ends.0 a.fore_old.ends.1 a.fore_new.ends.0 a.fore_new.ends.1
      (positive (first_of 128 p) (past_of 128 p) (some 128 p)) (positive (first_of 128 q) (past_of 128 q) (some 128 q)) ends_old ends_new
      (eqb-true (value_of o.end) (value_of n.end) e)
    where
      positive : (x y : ℕ) → x < y → 0 < y
      positive x y h = omega arith

  other_end : eqb (value_of o.end) (value_of n.end) ≡ false → past_of 128 p ≡ past_of 128 q → ⊥
  other_end e f =
      eqb-false (value_of o.end) (value_of n.end) e
      (stands_same (value_of o.end) (value_of n.end) (past_of 128 p) (past_of 128 q) (2 ^ 128)
      a.fore_old.ends.0 a.fore_old.ends.1 a.fore_new.ends.0 a.fore_new.ends.1 ends_old f)

  -- the longer prefix ends first
  old_ends : eqb (value_of o.end) (value_of n.end) ≡ false → n.len < o.len → past_of 128 p < past_of 128 q
  old_ends e h =
      let l : q.length ≤ p.length = omega (arith, a.fore_old.long, a.fore_new.long, h) in
      let r = nested 128 q p l a.fore_old.tiles.1 a.lap.1 a.lap.0 in
      strictly (past_of 128 p) (past_of 128 q) r.1 (other_end e)

  new_ends : eqb (value_of o.end) (value_of n.end) ≡ false → o.len ≤ n.len → past_of 128 q < past_of 128 p
  new_ends e h =
      let l : p.length ≤ q.length = omega (arith, a.fore_old.long, a.fore_new.long, h) in
      let r = nested 128 p q l a.fore_new.tiles.1 a.lap.0 a.lap.1 in
      strictly (past_of 128 q) (past_of 128 p) r.1 (λ f. other_end e (sym f))

weaker : (x y : ℕ) → x < y → x ≤ y
weaker x y h = omega arith

none_old : (ps qs : List Piece) → ps ≡ [] → changes 128 ps qs ≡ []
unfolding changes
none_old ps qs e = ap (λ (l : List Piece). changes 128 l qs) e

none_new : (ps qs : List Piece) → qs ≡ [] → changes 128 ps qs ≡ []
none_new ps qs e = ap (changes 128 ps) e ∙ changes_none 128 ps

-- ---- on from there

-- the piece that follows one begins where it ends
begins_behind : (p p' : Piece) (ps ps' : List Piece) → Tiles 128 (first_of 128 p) (2 ^ 128) (p ∷ ps) → ps ≡ p' ∷ ps' → first_of 128 p' ≡ past_of 128 p
begins_behind p p' ps ps' t e = let u : Tiles 128 (past_of 128 p) (2 ^ 128) (p' ∷ ps') = subst (Tiles 128 (past_of 128 p) (2 ^ 128)) e t.2 in u.0

-- the new one goes on beside the next old one, and the other way round
lap_on : (p p' q : Piece) → first_of 128 p' ≡ past_of 128 p → first_of 128 q < past_of 128 p → past_of 128 p < past_of 128 q
    → (first_of 128 p' < past_of 128 q) × (first_of 128 q < past_of 128 p')
lap_on p p' q e h k = (subst (λ (x : ℕ). x < past_of 128 q) (sym e) k, further (first_of 128 q) (past_of 128 p) (first_of 128 p') (past_of 128 p') h e (some 128 p'))
  where
    further : (x y z v : ℕ) → x < y → z ≡ y → z < v → x < v
    further x y z v a b c = omega arith

module _
    {old new : List ℕ} {writes : Bool} {out₀ out ob on nb nn : List ℕ} {f : Found} {o n : Front} (s : Standing old new writes out₀ out ob on nb nn f o n)
  where
    abbrev all : List Change
    all = changes_of old new 128

    abbrev p : Piece
    p = s.piece_old

    abbrev q : Piece
    q = s.piece_new

    abbrev ps : List Piece
    ps = s.behind_old

    abbrev qs : List Piece
    qs = s.behind_new

    told_old : Tiles 128 (first_of 128 p) (2 ^ 128) (p ∷ ps)
    told_old = s.pair.fore_old.tiles

    told_new : Tiles 128 (first_of 128 q) (2 ^ 128) (q ∷ qs)
    told_new = s.pair.fore_new.tiles

    pub room_here : RoomFor writes (length all) out₀ → (o.number ≡ n.number → ⊥) → Roomy writes f.pieces out
    room_here h d =
        let t : test 128 p q ≡ true = tested s.pair ∙ ap not (ne_eqb o.number n.number d) in
        let l = one_at_least p q ps qs t in
        room_for_one writes f.pieces (length all) out₀ out h s.tally.long (omega (arith, l, s.tally.count))

    -- both end at one address where its halves are the same
    pub same_ends : {r b : Bool} → r ≡ (eqb o.end.high n.end.high && eqb o.end.low n.end.low) → r ≡ b → eqb (value_of o.end) (value_of n.end) ≡ b
    same_ends e f = sym (e ∙ same_address o.end n.end s.pair.fore_old.end_half s.pair.fore_new.end_half) ∙ f

    pub count_here : length all ≤ most_changes → f.pieces ≤ most_changes
    count_here h = omega (arith, h, s.tally.count)

    module _ {out' : List ℕ} {f' : Found} where
      -- what is left to find behind both, behind the old one, behind the new one
      left_both : Noted writes o n f f' out out' → eqb (value_of o.end) (value_of n.end) ≡ true → Tally writes out₀ out' f' (changes 128 ps qs) all
      left_both h e =
          noted s.pair writes out₀ out out' f f' (changes 128 ps qs) all
          (subst (λ (l : List Change). Tally writes out₀ out f l all)
          (both_first 128 (first_of 128 p) (first_of 128 q) (2 ^ 128) (2 ^ 128) p q ps qs told_old told_new (same_end s.pair e)) s.tally) h

      left_old : Noted writes o n f f' out out' → past_of 128 p < past_of 128 q → Tally writes out₀ out' f' (changes 128 ps (q ∷ qs)) all
      left_old h k =
          noted s.pair writes out₀ out out' f f' (changes 128 ps (q ∷ qs)) all
          (subst (λ (l : List Change). Tally writes out₀ out f l all) (old_first 128 (first_of 128 q) (2 ^ 128) p q ps qs told_new (weaker (past_of 128 p) (past_of 128 q) k)) s.tally) h

      left_new : Noted writes o n f f' out out' → past_of 128 q < past_of 128 p → Tally writes out₀ out' f' (changes 128 (p ∷ ps) qs) all
      left_new h k =
          noted s.pair writes out₀ out out' f f' (changes 128 (p ∷ ps) qs) all
          (subst (λ (l : List Change). Tally writes out₀ out f l all) (new_first 128 (first_of 128 p) (2 ^ 128) p q ps qs told_old (weaker (past_of 128 q) (past_of 128 p) k)) s.tally) h

      pub on_both : {o' n' : Front} {ob' on' nb' nn' : List ℕ} → Noted writes o n f f' out out' → eqb (value_of o.end) (value_of n.end) ≡ true → Split old o.spot ps ob' on' o' → Split new n.spot qs nb' nn' n'
          → Standing old new writes out₀ out' ob' on' nb' nn' f' o' n'
      on_both h e x y =
          record {
            piece_old = x.piece;
            piece_new = y.piece;
            behind_old = x.behind;
            behind_new = y.behind;
            pair = record {
              fore_old = x.fore;
              fore_new = y.fore;
              lap = start_lap x.piece y.piece
                  (begins_behind p x.piece ps x.behind told_old x.parts ∙ same_end s.pair e ∙ sym (begins_behind q y.piece qs y.behind told_new y.parts));
            };
            tally = subst (λ (l : List Change). Tally writes out₀ out' f' l all)
                (ap (λ (l : List Piece). changes 128 l qs) x.parts ∙ ap (changes 128 (x.piece ∷ x.behind)) y.parts) (left_both h e);
          }

      pub on_old : {o' : Front} {ob' on' : List ℕ} → Noted writes o n f f' out out' → eqb (value_of o.end) (value_of n.end) ≡ false → n.len < o.len → Split old o.spot ps ob' on' o'
          → Standing old new writes out₀ out' ob' on' nb nn f' o' n
      on_old h e l x =
          record {
            piece_old = x.piece;
            piece_new = q;
            behind_old = x.behind;
            behind_new = qs;
            pair = record {
              fore_old = x.fore;
              fore_new = s.pair.fore_new;
              lap = lap_on p x.piece q (begins_behind p x.piece ps x.behind told_old x.parts) s.pair.lap.1 (old_ends s.pair e l);
            };
            tally = subst (λ (i : List Piece). Tally writes out₀ out' f' (changes 128 i (q ∷ qs)) all) x.parts (left_old h (old_ends s.pair e l));
          }

      pub on_new : {n' : Front} {nb' nn' : List ℕ} → Noted writes o n f f' out out' → eqb (value_of o.end) (value_of n.end) ≡ false → o.len ≤ n.len → Split new n.spot qs nb' nn' n'
          → Standing old new writes out₀ out' ob on nb' nn' f' o n'
      on_new h e l y =
          let m = lap_on q y.piece p (begins_behind q y.piece qs y.behind told_new y.parts) s.pair.lap.0 (new_ends s.pair e l) in
          record {
            piece_old = p;
            piece_new = y.piece;
            behind_old = ps;
            behind_new = y.behind;
            pair = record { fore_old = s.pair.fore_old; fore_new = y.fore; lap = (m.1, m.0) };
            tally = subst (λ (i : List Piece). Tally writes out₀ out' f' (changes 128 (p ∷ ps) i) all) y.parts (left_new h (new_ends s.pair e l));
          }

      -- ---- the end of one of them

      pub end_both_old : Noted writes o n f f' out out' → eqb (value_of o.end) (value_of n.end) ≡ true → ps ≡ [] → Whole writes all out₀ out' f'
      end_both_old h e z = tally_whole (left_both h e) (none_old ps qs z)

      pub end_both_new : Noted writes o n f f' out out' → eqb (value_of o.end) (value_of n.end) ≡ true → qs ≡ [] → Whole writes all out₀ out' f'
      end_both_new h e z = tally_whole (left_both h e) (none_new ps qs z)

      pub end_old : Noted writes o n f f' out out' → eqb (value_of o.end) (value_of n.end) ≡ false → n.len < o.len → ps ≡ [] → Whole writes all out₀ out' f'
      end_old h e l z = tally_whole (left_old h (old_ends s.pair e l)) (none_old ps (q ∷ qs) z)

      pub end_new : Noted writes o n f f' out out' → eqb (value_of o.end) (value_of n.end) ≡ false → o.len ≤ n.len → qs ≡ [] → Whole writes all out₀ out' f'
      end_new h e l z = tally_whole (left_new h (new_ends s.pair e l)) (none_new (p ∷ ps) qs z)

-- ---- before the loop

pub start_at : (map : List ℕ) (s : Spot) (bits numbers : List ℕ) → Ready map → 128 ≡ length bits → 128 ≡ length numbers → s ≡ start_spot
    → Coming map s (record { high = 0; low = 0 }) bits numbers 0 (listing (map_of map))
start_at map s bits numbers r b n e = subst (λ (t : Spot). Coming map t (record { high = 0; low = 0 }) bits numbers 0 (listing (map_of map))) (sym e) (start_coming map bits numbers r b n)

pub first_of_lem : {map : List ℕ} {s : Spot} {ps : List Piece} {bits numbers : List ℕ} {f : Front} → Split map s ps bits numbers f → First map ps bits numbers f
first_of_lem x = record { piece = x.piece; behind = x.behind; parts = x.parts; fore = x.fore }

whole_none : (writes : Bool) (out : List ℕ) (f : Found) (cs : List Change) → cs ≡ [] → f ≡ record { pieces = 0; first = record { high = 0; low = 0 } } → Whole writes cs out out f
whole_none writes out f cs e h = subst (Whole writes cs out out) (sym h) (tally_whole (tally_start writes out cs) e)

-- a listing of nothing, which no accepted map has
pub no_old : (old new : List ℕ) (writes : Bool) (out : List ℕ) (f : Found) → listing (map_of old) ≡ [] → f ≡ record { pieces = 0; first = record { high = 0; low = 0 } }
    → Whole writes (changes_of old new 128) out out f
no_old old new writes out f e h = whole_none writes out f (changes_of old new 128) (none_old (listing (map_of old)) (listing (map_of new)) e) h

pub no_new : (old new : List ℕ) (writes : Bool) (out : List ℕ) (f : Found) → listing (map_of new) ≡ [] → f ≡ record { pieces = 0; first = record { high = 0; low = 0 } }
    → Whole writes (changes_of old new 128) out out f
no_new old new writes out f e h = whole_none writes out f (changes_of old new 128) (none_new (listing (map_of old)) (listing (map_of new)) e) h

-- as many changes as both maps have pieces, at most
pub bounded_changes : (old new : List ℕ) (k l : ℕ) → Ready old → Ready new → length (listing (map_of old)) ≡ k → length (listing (map_of new)) ≡ l
    → length (changes_of old new 128) ≤ k + l
bounded_changes old new k l r s e f = omega (arith, e, f, changes_few 128 0 0 (2 ^ 128) (2 ^ 128) (listing (map_of old)) (listing (map_of new)) r.tiles s.tiles)
