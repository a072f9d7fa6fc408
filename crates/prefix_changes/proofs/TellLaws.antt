-- What changes tell of an address, from the one piece of each list in which it lies. Over every width; the lists tile.
-- Assumes nothing.
use Prim.Native.Nat.{ℕ, ◌≤◌, ◌<◌}
use mathlib.Core.Bool.{Bool, true, false, ◌&&◌, not}
use mathlib.Core.Path.{◌≡◌, refl, sym, ap, ◌∙◌}
use mathlib.Core.List.{List, [], ◌∷◌, ◌++◌}
use native.Mathlib.Omega.{arith}
use lib.Dec.{ltb}
use borrow.Author.Tests.{ltb-true, ltb-false, lt-ltb, eq-eqb, ne_eqb}
use Rattle.prefix_records.specs.Tiling.{Piece, first_of, past_of, Tiles, holds, keep, holding, JustOne}
use Rattle.prefix_records.proofs.TilingLaws.{and-false}
use Rattle.prefix_records.proofs.PlaceLaws.{held_from, held_if}
use Rattle.prefix_changes.specs.Change.{Change, shared_if, shared, overlap, differ, adding, against, changes, among, Tells}
use Rattle.prefix_changes.proofs.ChangeLaws.{nested, overlapping, and_turned, adding_append, test}

-- ---- an address and what two pieces share

-- an address in the inner one of two pieces lies in both
inner : (w x : ℕ) (p q : Piece) → first_of w p ≤ first_of w q → past_of w q ≤ past_of w p → holds w x q ≡ (holds w x p && holds w x q)
inner w x p q h k = go (holds w x q) refl
  where
    go : (b : Bool) → holds w x q ≡ b → b ≡ (holds w x p && b)
    go true e = let f = held_from w x q e in rw (held_if w x p (omega (arith, f.0)) (omega (arith, f.1))) refl
    go false e = sym (and-false (holds w x p))

in-shared : (w x : ℕ) (p q : Piece) → p.length ≤ w → q.length ≤ w → overlap w p q ≡ true
    → holds w x (shared p q).was ≡ (holds w x p && holds w x q)
unfolding shared_if
in-shared w x p q h k o = go (ltb p.length q.length) refl
  where
    s : (first_of w p < past_of w q) × (first_of w q < past_of w p)
    s = overlapping w p q o

    go : (b : Bool) → ltb p.length q.length ≡ b → holds w x (shared_if b p q).was ≡ (holds w x p && holds w x q)
    go true e = let n = nested w p q (omega (arith, ltb-true p.length q.length e)) k s.0 s.1 in inner w x p q n.0 n.1
    go false e =
        let n = nested w q p (ltb-false p.length q.length e) h s.1 s.0 in
        inner w x q p n.0 n.1 ∙ and_turned (holds w x q) (holds w x p)

-- two pieces with an address in common overlap
common : (w x : ℕ) (p q : Piece) → holds w x p ≡ true → holds w x q ≡ true → overlap w p q ≡ true
common w x p q e f =
    let s = held_from w x p e in
    let t = held_from w x q f in
    rw (lt-ltb (first_of w p) (past_of w q) (omega (arith, s.0, t.1)), lt-ltb (first_of w q) (past_of w p) (omega (arith, t.0, s.1))) refl

-- whether a pair is a change in which the address lies: both hold it, and their numbers differ
told_pair : (w x : ℕ) (p q : Piece) → p.length ≤ w → q.length ≤ w
    → (test w p q && holds w x (shared p q).was) ≡ ((holds w x p && holds w x q) && differ p q)
told_pair w x p q h k = go (overlap w p q) refl
  where
    go : (b : Bool) → overlap w p q ≡ b → ((b && differ p q) && holds w x (shared p q).was) ≡ ((holds w x p && holds w x q) && differ p q)
    go true e = and_turned (differ p q) (holds w x (shared p q).was) ∙ ap (λ (b : Bool). b && differ p q) (in-shared w x p q h k e)
    go false e = ap (λ (b : Bool). b && differ p q) (sym (not_both (holds w x p) refl (holds w x q) refl))
      where
        not_both : (a : Bool) → holds w x p ≡ a → (b : Bool) → holds w x q ≡ b → (a && b) ≡ false
        not_both true f true g = let z = sym e ∙ common w x p q f g in let y : ◌≡◌ {A = ℕ} 0 1 = cc in absurd (omega arith)
        not_both true f false g = refl
        not_both false f b g = refl

-- ---- an address and all changes

among-append : (w x : ℕ) (xs ys : List Change) → among w x (xs ++ ys) ≡ among w x xs ++ among w x ys
unfolding among
among-append w x [] ys = refl
among-append w x (c ∷ xs) ys =
    ap (adding (holds w x c.was) c) (among-append w x xs ys) ∙ adding_append (holds w x c.was) c (among w x xs) (among w x ys)

among_adding : (w x : ℕ) (b : Bool) (c : Change) (cs : List Change) → among w x (adding b c cs) ≡ adding (b && holds w x c.was) c (among w x cs)
unfolding among adding
among_adding w x true c cs = refl
among_adding w x false c cs = refl

-- the changes of one piece with some in all of which an address lies
unfoldable telling : Piece → List Piece → List Change
telling p [] = []
telling p (q ∷ qs) = adding (differ p q) (shared p q) (telling p qs)

unfoldable all_telling : List Piece → List Piece → List Change
all_telling [] qs = []
all_telling (p ∷ ps) qs = telling p qs ++ all_telling ps qs

tell-keep : (b : Bool) (p q : Piece) (qs : List Piece) → adding (b && differ p q) (shared p q) (telling p qs) ≡ telling p (keep b q qs)
unfolding telling keep adding
tell-keep true p q qs = refl
tell-keep false p q qs = refl

against_out : (w x lo hi : ℕ) (p : Piece) (qs : List Piece) → p.length ≤ w → Tiles w lo hi qs → holds w x p ≡ false → among w x (against w p qs) ≡ []
unfolding against among adding
against_out w x lo hi p [] h t e = refl
against_out w x lo hi p (q ∷ qs) h t e =
    among_adding w x (test w p q) (shared p q) (against w p qs)
    ∙ ap (λ (b : Bool). adding b (shared p q) (among w x (against w p qs))) (told_pair w x p q h t.1 ∙ ap (λ (b : Bool). (b && holds w x q) && differ p q) e)
    ∙ against_out w x (past_of w q) hi p qs h t.2 e

against_in : (w x lo hi : ℕ) (p : Piece) (qs : List Piece) → p.length ≤ w → Tiles w lo hi qs → holds w x p ≡ true
    → among w x (against w p qs) ≡ telling p (holding w x qs)
unfolding against among holding telling
against_in w x lo hi p [] h t e = refl
against_in w x lo hi p (q ∷ qs) h t e =
    among_adding w x (test w p q) (shared p q) (against w p qs)
    ∙ ap (λ (b : Bool). adding b (shared p q) (among w x (against w p qs))) (told_pair w x p q h t.1 ∙ ap (λ (b : Bool). (b && holds w x q) && differ p q) e)
    ∙ ap (adding (holds w x q && differ p q) (shared p q)) (against_in w x (past_of w q) hi p qs h t.2 e)
    ∙ tell-keep (holds w x q) p q (holding w x qs)

-- with a piece in front in which the address lies, or not
by-piece : (w x lo hi : ℕ) (p : Piece) (ps qs : List Piece) → p.length ≤ w → Tiles w lo hi qs → (b : Bool) → holds w x p ≡ b
    → (among w x (against w p qs) ++ all_telling ps (holding w x qs)) ≡ all_telling (keep b p ps) (holding w x qs)
unfolding keep all_telling
by-piece w x lo hi p ps qs h t true e = ap (λ (l : List Change). l ++ all_telling ps (holding w x qs)) (against_in w x lo hi p qs h t e)
by-piece w x lo hi p ps qs h t false e = ap (λ (l : List Change). l ++ all_telling ps (holding w x qs)) (against_out w x lo hi p qs h t e)

changes-among : (w x lo lo' hi hi' : ℕ) (ps qs : List Piece) → Tiles w lo hi ps → Tiles w lo' hi' qs
    → among w x (changes w ps qs) ≡ all_telling (holding w x ps) (holding w x qs)
unfolding changes among holding all_telling
changes-among w x lo lo' hi hi' [] qs s t = refl
changes-among w x lo lo' hi hi' (p ∷ ps) qs s t =
    among-append w x (against w p qs) (changes w ps qs)
    ∙ ap (λ (l : List Change). among w x (against w p qs) ++ l) (changes-among w x (past_of w p) lo' hi hi' ps qs s.2 t)
    ∙ by-piece w x lo' hi' p (holding w x ps) qs s.1 t (holds w x p) refl

-- ---- the law

-- what two pieces tell of an address in both: nothing where their numbers are the same, else what they share
tell_two : (p q : Piece) (b : Bool) → differ p q ≡ b → all_telling (p ∷ []) (q ∷ []) ≡ adding b (shared p q) []
unfolding all_telling telling adding
tell_two p q true e = rw e refl
tell_two p q false e = rw e refl

shared-numbers : (b : Bool) (p q : Piece) → ((shared_if b p q).was.number ≡ p.number) × ((shared_if b p q).new ≡ q.number)
unfolding shared_if
shared-numbers true p q = (refl, refl)
shared-numbers false p q = (refl, refl)

none-added : (c : Change) (b : Bool) → b ≡ false → adding b c [] ≡ []
unfolding adding
none-added c b e = rw e refl

one-added : (c : Change) (b : Bool) → b ≡ true → adding b c [] ≡ c ∷ []
unfolding adding
one-added c b e = rw e refl

-- an address that lies in just one piece of each list: its changes are what these two tell
pub tells : (w x n k lo lo' hi hi' : ℕ) (ps qs : List Piece) → Tiles w lo hi ps → Tiles w lo' hi' qs → JustOne w x n ps → JustOne w x k qs
    → Tells w x n k (changes w ps qs)
tells w x n k lo lo' hi hi' ps qs s t j i =
    record {
      same = λ e. all ∙ none-added (shared p q) (differ p q) (ap not (eq-eqb p.number q.number (j.number ∙ e ∙ sym i.number)));
      other = λ f.
          record {
            change = shared p q;
            only = all ∙ one-added (shared p q) (differ p q) (ap not (ne_eqb p.number q.number (λ e. f (sym j.number ∙ e ∙ i.number))));
            old = (shared-numbers (ltb p.length q.length) p q).0 ∙ j.number;
            new = (shared-numbers (ltb p.length q.length) p q).1 ∙ i.number;
          };
    }
  where
    p : Piece
    p = j.piece

    q : Piece
    q = i.piece

    all : among w x (changes w ps qs) ≡ adding (differ p q) (shared p q) []
    all =
        changes-among w x lo lo' hi hi' ps qs s t
        ∙ ap (λ (l : List Piece). all_telling l (holding w x qs)) j.only
        ∙ ap (all_telling (p ∷ [])) i.only
        ∙ tell_two p q (differ p q) refl
