-- Changes, one pair of pieces after the other: what the foremost two of both lists add, and what is left of the lists then. From it follow how many
-- changes there are at most, that they rise, and that the changes the other way round are the same ones, turned.
-- Assumes nothing.
use Prim.Native.Nat.{ℕ, zero, suc, ◌+◌, ◌-◌, ◌*◌, ◌^◌, ◌≤◌, ◌<◌}
use mathlib.Core.Bool.{Bool, true, false, ◌&&◌, not}
use mathlib.Core.Path.{◌≡◌, refl, sym, ap, subst, ◌∙◌}
use mathlib.Core.List.{List, [], ◌∷◌, ◌++◌}
use native.Mathlib.Nat.{mul-le-mul_right}
use native.Mathlib.Omega.{arith}
use lib.Dec.{leb, ltb, eqb}
use lib.ListN.{length}
use borrow.Author.Tests.{leb-true, leb-false, ltb-true, ltb-false, le-ltb, eq-eqb, ne_eqb, eqb-true, eqb-false}
use Rattle.prefix_records.specs.Tiling.{Piece, first_of, past_of, Tiles}
use Rattle.prefix_records.proofs.TilingLaws.{some, wider, and-false}
use Rattle.prefix_changes.specs.Change.{Change, shared_if, shared, overlap, differ, adding, against, changes, Rises, back, backs}

-- ---- of two pieces that overlap one holds the other

cancel : (x y k : ℕ) → x * k < y * k → x < y
cancel x y k h = go (ltb x y) refl
  where
    go : (t : Bool) → ltb x y ≡ t → x < y
    go true e = ltb-true x y e
    go false e = let l = mul-le-mul_right k (ltb-false x y e) in absurd (omega arith)

pub nested : (w : ℕ) (p q : Piece) → p.length ≤ q.length → q.length ≤ w → first_of w p < past_of w q → first_of w q < past_of w p
    → (first_of w p ≤ first_of w q) × (past_of w q ≤ past_of w p)
nested w p q h k l r =
    let a = 2 ^ (q.length - p.length) in
    let b = 2 ^ (w - q.length) in
    let f : first_of w p ≡ p.prefix * a * b = wider q.length w p.prefix p.length h k in
    let g : past_of w p ≡ (p.prefix + 1) * a * b = wider q.length w (p.prefix + 1) p.length h k in
    let c : p.prefix * a < q.prefix + 1 = cancel (p.prefix * a) (q.prefix + 1) b (subst (λ (n : ℕ). n < past_of w q) f l) in
    let d : q.prefix < (p.prefix + 1) * a = cancel q.prefix ((p.prefix + 1) * a) b (subst (λ (n : ℕ). first_of w q < n) g r) in
    let u : p.prefix * a * b ≤ q.prefix * b = mul-le-mul_right b (omega (arith, c)) in
    let v : (q.prefix + 1) * b ≤ (p.prefix + 1) * a * b = mul-le-mul_right b (omega (arith, d)) in
    (omega (arith, f, u), omega (arith, g, v))

and_both : (a b : Bool) → (a && b) ≡ true → (a ≡ true) × (b ≡ true)
and_both true b e = (refl, e)
and_both false b e = let z : ◌≡◌ {A = ℕ} 0 1 = cc in absurd (omega arith)

pub overlapping : (w : ℕ) (p q : Piece) → overlap w p q ≡ true → (first_of w p < past_of w q) × (first_of w q < past_of w p)
overlapping w p q e =
    let b = and_both (ltb (first_of w p) (past_of w q)) (ltb (first_of w q) (past_of w p)) e in
    (ltb-true (first_of w p) (past_of w q) b.0, ltb-true (first_of w q) (past_of w p) b.1)

-- what two pieces that overlap share: it begins where the later of them begins, and ends where the earlier one ends
pub record Share (w : ℕ) (p q : Piece) (c : Change) : Type 0 where
  pub first_old : first_of w p ≤ first_of w c.was
  pub first_new : first_of w q ≤ first_of w c.was
  pub past_old : past_of w c.was ≤ past_of w p
  pub past_new : past_of w c.was ≤ past_of w q

pub sharing : (w : ℕ) (p q : Piece) → p.length ≤ w → q.length ≤ w → overlap w p q ≡ true → Share w p q (shared p q)
unfolding shared_if
sharing w p q h k e = go (ltb p.length q.length) refl
  where
    o : (first_of w p < past_of w q) × (first_of w q < past_of w p)
    o = overlapping w p q e

    go : (b : Bool) → ltb p.length q.length ≡ b → Share w p q (shared_if b p q)
    go true l =
        let s = ltb-true p.length q.length l in
        let n = nested w p q (omega arith) k o.0 o.1 in
        record { first_old = n.0; first_new = omega arith; past_old = n.1; past_new = omega arith }
    go false l =
        let s = ltb-false p.length q.length l in
        let n = nested w q p s h o.1 o.0 in
        record { first_old = omega arith; first_new = n.0; past_old = omega arith; past_new = n.1 }

-- ---- pieces apart

before_apart : (w : ℕ) (p q : Piece) → past_of w p ≤ first_of w q → overlap w p q ≡ false
before_apart w p q h = rw (le-ltb (first_of w q) (past_of w p) h) (and-false (ltb (first_of w p) (past_of w q)))

behind_apart : (w : ℕ) (p q : Piece) → past_of w q ≤ first_of w p → overlap w p q ≡ false
behind_apart w p q h = rw (le-ltb (first_of w p) (past_of w q) h) refl

not_added : (w : ℕ) (p q : Piece) (qs : List Piece) → overlap w p q ≡ false → against w p (q ∷ qs) ≡ against w p qs
unfolding against adding
not_added w p q qs e = rw e refl

against_behind : (w lo hi : ℕ) (p : Piece) (qs : List Piece) → Tiles w lo hi qs → past_of w p ≤ lo → against w p qs ≡ []
unfolding against
against_behind w lo hi p [] t h = refl
against_behind w lo hi p (q ∷ qs) t h =
    not_added w p q qs (before_apart w p q (omega (arith, t.0)))
    ∙ against_behind w (past_of w q) hi p qs t.2 (omega (arith, t.0, some w q))

changes_behind : (w lo hi : ℕ) (q : Piece) (ps qs : List Piece) → Tiles w lo hi ps → past_of w q ≤ lo → changes w ps (q ∷ qs) ≡ changes w ps qs
unfolding changes
changes_behind w lo hi q [] qs t h = refl
changes_behind w lo hi q (p ∷ ps) qs t h =
    ap (λ (l : List Change). l ++ changes w ps (q ∷ qs)) (not_added w p q qs (behind_apart w p q (omega (arith, t.0))))
    ∙ ap (λ (l : List Change). against w p qs ++ l) (changes_behind w (past_of w p) hi q ps qs t.2 (omega (arith, t.0, some w p)))

-- ---- the foremost two

pub adding_append : (b : Bool) (c : Change) (xs ys : List Change) → adding b c (xs ++ ys) ≡ adding b c xs ++ ys
unfolding adding
adding_append true c xs ys = refl
adding_append false c xs ys = refl

abbrev pub test : ℕ → Piece → Piece → Bool
test w p q = overlap w p q && differ p q

-- the old one ends first, or with the new one
pub old_first : (w lo hi : ℕ) (p q : Piece) (ps qs : List Piece) → Tiles w lo hi (q ∷ qs) → past_of w p ≤ past_of w q
    → changes w (p ∷ ps) (q ∷ qs) ≡ adding (test w p q) (shared p q) (changes w ps (q ∷ qs))
unfolding changes against
old_first w lo hi p q ps qs t h =
    ap (λ (l : List Change). adding (test w p q) (shared p q) l ++ changes w ps (q ∷ qs)) (against_behind w (past_of w q) hi p qs t.2 h)
    ∙ sym (adding_append (test w p q) (shared p q) [] (changes w ps (q ∷ qs)))

-- the new one ends first, or with the old one
pub new_first : (w lo hi : ℕ) (p q : Piece) (ps qs : List Piece) → Tiles w lo hi (p ∷ ps) → past_of w q ≤ past_of w p
    → changes w (p ∷ ps) (q ∷ qs) ≡ adding (test w p q) (shared p q) (changes w (p ∷ ps) qs)
unfolding changes against
new_first w lo hi p q ps qs t h =
    ap (λ (l : List Change). adding (test w p q) (shared p q) (against w p qs) ++ l) (changes_behind w (past_of w p) hi q ps qs t.2 h)
    ∙ sym (adding_append (test w p q) (shared p q) (against w p qs) (changes w ps qs))

-- both end at once
pub both_first : (w lo lo' hi hi' : ℕ) (p q : Piece) (ps qs : List Piece) → Tiles w lo hi (p ∷ ps) → Tiles w lo' hi' (q ∷ qs) → past_of w p ≡ past_of w q
    → changes w (p ∷ ps) (q ∷ qs) ≡ adding (test w p q) (shared p q) (changes w ps qs)
both_first w lo lo' hi hi' p q ps qs s t e =
    old_first w lo' hi' p q ps qs t (omega (arith, e))
    ∙ ap (adding (test w p q) (shared p q)) (changes_behind w (past_of w p) hi q ps qs s.2 (omega (arith, e)))

pub changes_none : (w : ℕ) (ps : List Piece) → changes w ps [] ≡ []
unfolding changes against
changes_none w [] = refl
changes_none w (p ∷ ps) = changes_none w ps

-- ---- two tilings, pair by pair: what holds of lists of which one is at its end, and of two lists where it holds of what is left behind the one of
-- their foremost pieces that ends first, holds of both

pub merging : (w : ℕ) (P : List Piece → List Piece → Type 0)
    → ((qs : List Piece) → P [] qs)
    → ((ps : List Piece) → P ps [])
    → ((lo lo' hi hi' : ℕ) (p q : Piece) (ps qs : List Piece) → Tiles w lo hi (p ∷ ps) → Tiles w lo' hi' (q ∷ qs) → past_of w p ≤ past_of w q → P ps (q ∷ qs) → P (p ∷ ps) (q ∷ qs))
    → ((lo lo' hi hi' : ℕ) (p q : Piece) (ps qs : List Piece) → Tiles w lo hi (p ∷ ps) → Tiles w lo' hi' (q ∷ qs) → past_of w q ≤ past_of w p → P (p ∷ ps) qs → P (p ∷ ps) (q ∷ qs))
    → (n lo lo' hi hi' : ℕ) (ps qs : List Piece) → length ps + length qs ≤ n → Tiles w lo hi ps → Tiles w lo' hi' qs → P ps qs
merging w P no_old no_new by_old by-new n lo lo' hi hi' [] qs h s t = no_old qs
merging w P no_old no_new by_old by-new n lo lo' hi hi' (p ∷ ps) [] h s t = no_new (p ∷ ps)
merging w P no_old no_new by_old by-new zero lo lo' hi hi' (p ∷ ps) (q ∷ qs) h s t = absurd (omega arith)
merging w P no_old no_new by_old by-new (suc n) lo lo' hi hi' (p ∷ ps) (q ∷ qs) h s t =
    go (leb (past_of w p) (past_of w q)) refl
    (merging w P no_old no_new by_old by-new n (past_of w p) lo' hi hi' ps (q ∷ qs) (omega arith) s.2 t)
    (merging w P no_old no_new by_old by-new n lo (past_of w q) hi hi' (p ∷ ps) qs (omega arith) s t.2)
  where
    go : (b : Bool) → leb (past_of w p) (past_of w q) ≡ b → P ps (q ∷ qs) → P (p ∷ ps) qs → P (p ∷ ps) (q ∷ qs)
    go true e u v = by_old lo lo' hi hi' p q ps qs s t (leb-true (past_of w p) (past_of w q) e) u
    go false e u v = by-new lo lo' hi hi' p q ps qs s t (omega (arith, leb-false (past_of w p) (past_of w q) e)) v

module _ (w lo lo' hi hi' : ℕ) (ps qs : List Piece) (s : Tiles w lo hi ps) (t : Tiles w lo' hi' qs) where
  -- by `merging`, with the lengths of both lists for its number
  by_pairs : (P : List Piece → List Piece → Type 0)
      → ((qs : List Piece) → P [] qs)
      → ((ps : List Piece) → P ps [])
      → ((lo lo' hi hi' : ℕ) (p q : Piece) (ps qs : List Piece) → Tiles w lo hi (p ∷ ps) → Tiles w lo' hi' (q ∷ qs) → past_of w p ≤ past_of w q → P ps (q ∷ qs) → P (p ∷ ps) (q ∷ qs))
      → ((lo lo' hi hi' : ℕ) (p q : Piece) (ps qs : List Piece) → Tiles w lo hi (p ∷ ps) → Tiles w lo' hi' (q ∷ qs) → past_of w q ≤ past_of w p → P (p ∷ ps) qs → P (p ∷ ps) (q ∷ qs))
      → P ps qs
  by_pairs P a b c d = merging w P a b c d (length ps + length qs) lo lo' hi hi' ps qs (omega arith) s t

-- ---- how many

adding_length : (b : Bool) (c : Change) (cs : List Change) → length (adding b c cs) ≤ suc (length cs)
unfolding adding
adding_length true c cs = omega arith
adding_length false c cs = omega arith

few_more : (b : Bool) (c : Change) (cs all : List Change) (n m : ℕ) → all ≡ adding b c cs → length cs ≤ n → suc n ≤ m → length all ≤ m
few_more b c cs all n m e h k = omega (arith, ap length e, adding_length b c cs)

-- as many as both lists have pieces, at most
pub changes_few : (w lo lo' hi hi' : ℕ) (ps qs : List Piece) → Tiles w lo hi ps → Tiles w lo' hi' qs → length (changes w ps qs) ≤ length ps + length qs
unfolding changes
changes_few w lo lo' hi hi' ps qs s t =
    by_pairs w lo lo' hi hi' ps qs s t (λ (ps qs : List Piece). length (changes w ps qs) ≤ length ps + length qs)
    (λ qs. omega arith)
    (λ ps. omega (arith, ap length (changes_none w ps)))
    (λ lo lo' hi hi' p q ps qs s t h r. few_more (test w p q) (shared p q) _ _ _ _ (old_first w lo' hi' p q ps qs t h) r (omega arith))
    (λ lo lo' hi hi' p q ps qs s t h r. few_more (test w p q) (shared p q) _ _ _ _ (new_first w lo hi p q ps qs s h) r (omega arith))

-- ---- they rise

-- where a list's first piece begins at lo or behind it; a list at its end begins nowhere
abbrev Late : ℕ → ℕ → List Piece → Type 0
Late w lo [] = Unit {0}
Late w lo (p ∷ ps) = lo ≤ first_of w p

-- changes rise from wherever either list begins
abbrev RiseBoth : ℕ → List Piece → List Piece → List Change → Type 0
RiseBoth w ps qs cs = ((lo : ℕ) → Late w lo ps → Rises w lo cs) × ((lo : ℕ) → Late w lo qs → Rises w lo cs)

pub rises_less : (w lo lo' : ℕ) (cs : List Change) → lo ≤ lo' → Rises w lo' cs → Rises w lo cs
rises_less w lo lo' [] h r = r
rises_less w lo lo' (c ∷ cs) h r = (omega (arith, r.0), r.1)

late : (w lo hi m : ℕ) (ps : List Piece) → Tiles w lo hi ps → m ≤ lo → Late w m ps
late w lo hi m [] t h = tt
late w lo hi m (p ∷ ps) t h = omega (arith, t.0)

rises_adding : (w lo : ℕ) (b : Bool) (c : Change) (cs : List Change)
    → (b ≡ false → Rises w lo cs) → (b ≡ true → (lo ≤ first_of w c.was) × Rises w (past_of w c.was) cs) → Rises w lo (adding b c cs)
unfolding adding
rises_adding w lo true c cs n y = y refl
rises_adding w lo false c cs n y = n refl

-- where the foremost two are tested, from what they share
share_if : (w : ℕ) (p q : Piece) → p.length ≤ w → q.length ≤ w → test w p q ≡ true → Share w p q (shared p q)
share_if w p q h k e = sharing w p q h k (and_both (overlap w p q) (differ p q) e).0

rise_old : (w lo lo' hi hi' : ℕ) (p q : Piece) (ps qs : List Piece) (cs : List Change) → Tiles w lo hi (p ∷ ps) → Tiles w lo' hi' (q ∷ qs)
    → RiseBoth w ps (q ∷ qs) cs → RiseBoth w (p ∷ ps) (q ∷ qs) (adding (test w p q) (shared p q) cs)
rise_old w lo lo' hi hi' p q ps qs cs s t r = (
  λ a h. rises_adding w a (test w p q) (shared p q) cs (λ e. r.0 a (late w (past_of w p) hi a ps s.2 (omega (arith, some w p)))) (λ e. (omega (arith, (share_if w p q s.1 t.1 e).first_old), on e)),
  λ a h. rises_adding w a (test w p q) (shared p q) cs (λ e. r.1 a h) (λ e. (omega (arith, (share_if w p q s.1 t.1 e).first_new), on e)),
)
  where
    on : test w p q ≡ true → Rises w (past_of w (shared p q).was) cs
    on e = r.0 (past_of w (shared p q).was) (late w (past_of w p) hi (past_of w (shared p q).was) ps s.2 (share_if w p q s.1 t.1 e).past_old)

rise_new : (w lo lo' hi hi' : ℕ) (p q : Piece) (ps qs : List Piece) (cs : List Change) → Tiles w lo hi (p ∷ ps) → Tiles w lo' hi' (q ∷ qs)
    → RiseBoth w (p ∷ ps) qs cs → RiseBoth w (p ∷ ps) (q ∷ qs) (adding (test w p q) (shared p q) cs)
rise_new w lo lo' hi hi' p q ps qs cs s t r = (
  λ a h. rises_adding w a (test w p q) (shared p q) cs (λ e. r.0 a h) (λ e. (omega (arith, (share_if w p q s.1 t.1 e).first_old), on e)),
  λ a h. rises_adding w a (test w p q) (shared p q) cs (λ e. r.1 a (late w (past_of w q) hi' a qs t.2 (omega (arith, some w q)))) (λ e. (omega (arith, (share_if w p q s.1 t.1 e).first_new), on e)),
)
  where
    on : test w p q ≡ true → Rises w (past_of w (shared p q).was) cs
    on e = r.1 (past_of w (shared p q).was) (late w (past_of w q) hi' (past_of w (shared p q).was) qs t.2 (share_if w p q s.1 t.1 e).past_new)

pub changes_rise : (w lo lo' hi hi' : ℕ) (ps qs : List Piece) → Tiles w lo hi ps → Tiles w lo' hi' qs → Rises w lo (changes w ps qs)
unfolding changes
changes_rise w lo lo' hi hi' ps qs s t =
    (by_pairs w lo lo' hi hi' ps qs s t (λ (ps qs : List Piece). RiseBoth w ps qs (changes w ps qs))
    (λ qs. ((λ a h. tt), (λ a h. tt)))
    (λ ps. subst (RiseBoth w ps []) (sym (changes_none w ps)) ((λ a h. tt), (λ a h. tt)))
    (λ lo lo' hi hi' p q ps qs s t h r. subst (RiseBoth w (p ∷ ps) (q ∷ qs)) (sym (old_first w lo' hi' p q ps qs t h)) (rise_old w lo lo' hi hi' p q ps qs (changes w ps (q ∷ qs)) s t r))
    (λ lo lo' hi hi' p q ps qs s t h r. subst (RiseBoth w (p ∷ ps) (q ∷ qs)) (sym (new_first w lo hi p q ps qs s h)) (rise_new w lo lo' hi hi' p q ps qs (changes w (p ∷ ps) qs) s t r))
    ).0 lo (late w lo hi lo ps s (omega arith))

-- ---- the same lists

-- a number does not differ from itself
same_number : (n : ℕ) → eqb n n ≡ true
same_number n = eq-eqb n n refl

pub changes_same : (w lo hi : ℕ) (ps : List Piece) → Tiles w lo hi ps → changes w ps ps ≡ []
unfolding changes adding
changes_same w lo hi [] t = refl
changes_same w lo hi (p ∷ ps) t =
    let e : test w p p ≡ false = rw (same_number p.number) (and-false (overlap w p p)) in
    both_first w lo lo hi hi p p ps ps t t refl ∙ ap (λ (b : Bool). adding b (shared p p) (changes w ps ps)) e ∙ changes_same w (past_of w p) hi ps t.2

-- ---- the other way round

pub and_turned : (a b : Bool) → (a && b) ≡ (b && a)
and_turned true true = refl
and_turned true false = refl
and_turned false true = refl
and_turned false false = refl

eqb_turned : (n k : ℕ) → eqb n k ≡ eqb k n
eqb_turned n k = go (eqb n k) refl
  where
    go : (b : Bool) → eqb n k ≡ b → b ≡ eqb k n
    go true e = sym (eq-eqb k n (sym (eqb-true n k e)))
    go false e = sym (ne_eqb k n (λ h. eqb-false n k e (sym h)))

test_turned : (w : ℕ) (p q : Piece) → test w q p ≡ test w p q
test_turned w p q =
    ap (λ (b : Bool). b && differ q p) (and_turned (ltb (first_of w q) (past_of w p)) (ltb (first_of w p) (past_of w q)))
    ∙ ap (λ (b : Bool). overlap w p q && not b) (eqb_turned q.number p.number)

-- two pieces of one length that overlap are one
one_prefix : (w : ℕ) (p q : Piece) → p.length ≡ q.length → p.length ≤ w → q.length ≤ w → overlap w p q ≡ true → p.prefix ≡ q.prefix
one_prefix w p q e h k o =
    let s = overlapping w p q o in
    let k2 : 2 ^ (w - q.length) ≡ 2 ^ (w - p.length) = ap (λ (n : ℕ). 2 ^ (w - n)) (sym e) in
    let u : p.prefix < q.prefix + 1 = cancel p.prefix (q.prefix + 1) (2 ^ (w - p.length)) (subst (λ (n : ℕ). first_of w p < (q.prefix + 1) * n) k2 s.0) in
    let v : q.prefix < p.prefix + 1 = cancel q.prefix (p.prefix + 1) (2 ^ (w - p.length)) (subst (λ (n : ℕ). q.prefix * n < past_of w p) k2 s.1) in
    omega (arith, u, v)

abbrev turned : ℕ → ℕ → ℕ → ℕ → Change
turned x l n k = record { was = record { prefix = x; length = l; number = n }; new = k }

shared_turned : (w : ℕ) (p q : Piece) → p.length ≤ w → q.length ≤ w → overlap w p q ≡ true → shared q p ≡ back (shared p q)
unfolding shared_if
shared_turned w p q h k o = go (ltb p.length q.length) refl (ltb q.length p.length) refl
  where
    go : (a : Bool) → ltb p.length q.length ≡ a → (b : Bool) → ltb q.length p.length ≡ b → shared_if b q p ≡ back (shared_if a p q)
    go true e true f = absurd (omega (arith, ltb-true p.length q.length e, ltb-true q.length p.length f))
    go true e false f = refl
    go false e true f = refl
    go false e false f =
        let l : p.length ≡ q.length = omega (arith, ltb-false p.length q.length e, ltb-false q.length p.length f) in
        ap (λ (x : ℕ). turned x q.length q.number p.number) (sym (one_prefix w p q l h k o))
        ∙ ap (λ (x : ℕ). turned p.prefix x q.number p.number) (sym l)

backs_adding : (b : Bool) (c d : Change) (cs : List Change) → (b ≡ true → d ≡ back c) → adding b d (backs cs) ≡ backs (adding b c cs)
unfolding adding backs
backs_adding true c d cs h = ap (λ (x : Change). x ∷ backs cs) (h refl)
backs_adding false c d cs h = refl

-- the foremost two, with what is left turned already
turn_pair : (w : ℕ) (p q : Piece) (cs ds : List Change) → p.length ≤ w → q.length ≤ w → ds ≡ backs cs
    → adding (test w q p) (shared q p) ds ≡ backs (adding (test w p q) (shared p q) cs)
turn_pair w p q cs ds h k e =
    ap (adding (test w q p) (shared q p)) e
    ∙ ap (λ (b : Bool). adding b (shared q p) (backs cs)) (test_turned w p q)
    ∙ backs_adding (test w p q) (shared p q) (shared q p) cs (λ f. shared_turned w p q h k (and_both (overlap w p q) (differ p q) f).0)

pub changes_back : (w lo lo' hi hi' : ℕ) (ps qs : List Piece) → Tiles w lo hi ps → Tiles w lo' hi' qs → changes w qs ps ≡ backs (changes w ps qs)
unfolding changes backs
changes_back w lo lo' hi hi' ps qs s t =
    by_pairs w lo lo' hi hi' ps qs s t (λ (ps qs : List Piece). changes w qs ps ≡ backs (changes w ps qs))
    (λ qs. changes_none w qs)
    (λ ps. ap backs (sym (changes_none w ps)))
    (λ lo lo' hi hi' p q ps qs s t h r.
    new_first w lo' hi' q p qs ps t h ∙ turn_pair w p q _ _ s.1 t.1 r ∙ ap backs (sym (old_first w lo' hi' p q ps qs t h)))
    (λ lo lo' hi hi' p q ps qs s t h r.
    old_first w lo hi q p qs ps s h ∙ turn_pair w p q _ _ s.1 t.1 r ∙ ap backs (sym (new_first w lo hi p q ps qs s h)))
