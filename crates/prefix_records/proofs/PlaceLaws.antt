-- Pieces by their places in a list: in a tiling each begins where the one before it ends, and an address that lies in just one piece lies in the
-- piece at one place only.
-- Assumes nothing.
use Rattle.std.proofs.Common.{◌≡◌, ℕ, zero, suc, ◌<◌, ◌≤◌, Bool, true, false, ◌&&◌, ltb, leb, List, [], ◌∷◌, length, sym, refl, ap, ◌∙◌, arith, ltb-true, lt-ltb, le-leb, leb-true}
use Rattle.prefix_records.specs.Tiling.{Piece, first_of, past_of, Tiles, holds, keep, holding}

-- the piece q stands at place j
abbrev pub At : List Piece → ℕ → Piece → Type 0
At [] j q = ⊥
At (p ∷ ps) zero q = p ≡ q
At (p ∷ ps) (suc j) q = At ps j q

pub at_place : (ps : List Piece) (j : ℕ) → j < length ps → (q : Piece) × At ps j q
at_place [] j h = absurd (omega arith)
at_place (p ∷ ps) zero h = (p, refl)
at_place (p ∷ ps) (suc j) h = at_place ps j (omega arith)

-- ---- a tiling, place by place

pub first_at : (w lo hi : ℕ) (ps : List Piece) (q : Piece) → Tiles w lo hi ps → At ps 0 q → first_of w q ≡ lo
first_at w lo hi [] q t a = absurd a
first_at w lo hi (p ∷ ps) q t a = ap (first_of w) (sym a) ∙ t.0

pub next_at : (w lo hi : ℕ) (ps : List Piece) (j : ℕ) (p q : Piece) → Tiles w lo hi ps → At ps j p → At ps (suc j) q → first_of w q ≡ past_of w p
next_at w lo hi [] j p q t a b = absurd a
next_at w lo hi (x ∷ ps) zero p q t a b = first_at w (past_of w x) hi ps q t.2 b ∙ ap (past_of w) a
next_at w lo hi (x ∷ ps) (suc j) p q t a b = next_at w (past_of w x) hi ps j p q t.2 a b

pub last_at : (w lo hi : ℕ) (ps : List Piece) (j : ℕ) (p : Piece) → Tiles w lo hi ps → At ps j p → suc j ≡ length ps → past_of w p ≡ hi
last_at w lo hi [] j p t a e = absurd a
last_at w lo hi (x ∷ []) zero p t a e = ap (past_of w) (sym a) ∙ t.2
last_at w lo hi (x ∷ y ∷ ps) zero p t a e = absurd (omega arith)
last_at w lo hi (x ∷ ps) (suc j) p t a e = last_at w (past_of w x) hi ps j p t.2 a (omega arith)

pub short_at : (w lo hi : ℕ) (ps : List Piece) (j : ℕ) (p : Piece) → Tiles w lo hi ps → At ps j p → p.length ≤ w
short_at w lo hi [] j p t a = absurd a
short_at w lo hi (x ∷ ps) zero p t a = rw (← a) t.1
short_at w lo hi (x ∷ ps) (suc j) p t a = short_at w (past_of w x) hi ps j p t.2 a

-- ---- just one

and_both : (a b : Bool) → (a && b) ≡ true → (a ≡ true) × (b ≡ true)
and_both true b e = (refl, e)
and_both false b e = let z : ◌≡◌ {A = ℕ} 0 1 = cc in absurd (omega arith)

pub held_from : (w x : ℕ) (p : Piece) → holds w x p ≡ true → (first_of w p ≤ x) × (x < past_of w p)
held_from w x p e =
    let b = and_both (leb (first_of w p) x) (ltb x (past_of w p)) e in
    (leb-true (first_of w p) x b.0, ltb-true x (past_of w p) b.1)

pub held_if : (w x : ℕ) (p : Piece) → first_of w p ≤ x → x < past_of w p → holds w x p ≡ true
held_if w x p h k = rw (le-leb (first_of w p) x h, lt-ltb x (past_of w p) k)

-- an address that lies in no piece lies in none at any place
none_at : (w x : ℕ) (ps : List Piece) → holding w x ps ≡ [] → (j : ℕ) (q : Piece) → At ps j q → holds w x q ≡ true → ⊥
unfolding holding keep
none_at w x [] e j q a h = a
none_at w x (p ∷ ps) e j q a h = go (holds w x p) refl (λ r k b. none_at w x ps r k q b h) j a
  where
    go : (b : Bool) → holds w x p ≡ b → (holding w x ps ≡ [] → (j : ℕ) → At ps j q → ⊥) → (j : ℕ) → At (p ∷ ps) j q → ⊥
    go true k more j a = let r = rw k at e in let z : ◌≡◌ {A = ℕ} 0 1 = cc in absurd (omega arith)
    go false k more zero a = let r : holds w x q ≡ false = ap (holds w x) (sym a) ∙ k in let y = sym r ∙ h in let z : ◌≡◌ {A = ℕ} 0 1 = cc in absurd (omega arith)
    go false k more (suc j) a = more (rw k at e) j a

-- the place of the one piece
pub record Place (w x : ℕ) (ps : List Piece) (p : Piece) : Type 0 where
  pub place : ℕ
  pub inside : place < length ps
  pub there : At ps place p
  pub held : holds w x p ≡ true
  pub only : (j : ℕ) (q : Piece) → At ps j q → holds w x q ≡ true → j ≡ place

pub one_place : (w x : ℕ) (ps : List Piece) (p : Piece) → holding w x ps ≡ p ∷ [] → Place w x ps p
unfolding holding keep
one_place w x [] p e = let z : ◌≡◌ {A = ℕ} 0 1 = cc in absurd (omega arith)
one_place w x (q ∷ ps) p e = go (holds w x q) refl λ r. one_place w x ps p r
  where
    go : (b : Bool) → holds w x q ≡ b → (holding w x ps ≡ p ∷ [] → Place w x ps p) → Place w x (q ∷ ps) p
    go true k more =
        let r = rw k at e in
        let y : q ≡ p = cc in
        let n : holding w x ps ≡ [] = cc in
        record { place = 0; inside = omega arith; there = y; held = ap (holds w x) (sym y) ∙ k; only = λ j o a h. zero_only n j o a h }
      where
        zero_only : holding w x ps ≡ [] → (j : ℕ) (o : Piece) → At (q ∷ ps) j o → holds w x o ≡ true → j ≡ 0
        zero_only n zero o a h = refl
        zero_only n (suc j) o a h = absurd (none_at w x ps n j o a h)
    go false k more =
        let r = more (rw k at e) in
        record { place = suc r.place; inside = omega (arith, r.inside); there = r.there; held = r.held; only = λ j o a h. later r j o a h }
      where
        later : (r : Place w x ps p) (j : ℕ) (o : Piece) → At (q ∷ ps) j o → holds w x o ≡ true → j ≡ suc r.place
        later r zero o a h = let y : holds w x o ≡ false = ap (holds w x) (sym a) ∙ k in let t = sym y ∙ h in let z : ◌≡◌ {A = ℕ} 0 1 = cc in absurd (omega arith)
        later r (suc j) o a h = ap suc (r.only j o a h)
