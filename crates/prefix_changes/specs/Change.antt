-- Two lists of pieces that tile the addresses of w bits, side by side: the pieces on which their numbers differ, and what these tell of an
-- address.
-- Assumes nothing.
use Rattle.std.specs.Prelude.{ℕ, ◌≤◌, Bool, true, false, ◌&&◌, not, ◌≡◌, List, [], ◌∷◌, ◌++◌, ltb, eqb}
use Rattle.prefix_records.specs.Tiling.{Piece, first_of, past_of, holds}

-- A change: a piece with the number that it has in the old list, and the number that its addresses have in the new one.
pub record Change : Type 0 where
  pub was : Piece
  pub new : ℕ

-- The piece p of the old list with the prefix of q, which is at least as long, and the new number n.
abbrev pub narrowed : Piece → Piece → ℕ → Change
narrowed p q n = record { was = record { prefix = q.prefix; length = q.length; number = p.number }; new = n }

-- What a piece of the old list and one of the new share where they overlap: "the longer prefix is the piece".
unfoldable pub shared_if : Bool → Piece → Piece → Change
shared_if true p q = narrowed p q q.number
shared_if false p q = narrowed p p q.number

abbrev pub shared : Piece → Piece → Change
shared p q = shared_if (ltb p.length q.length) p q

-- Whether two pieces overlap: each begins before the other ends.
abbrev pub overlap : ℕ → Piece → Piece → Bool
overlap w p q = ltb (first_of w p) (past_of w q) && ltb (first_of w q) (past_of w p)

-- Whether their numbers differ.
abbrev pub differ : Piece → Piece → Bool
differ p q = not (eqb p.number q.number)

-- A change in front of others, where the test holds.
unfoldable pub adding : Bool → Change → List Change → List Change
adding true c cs = c ∷ cs
adding false c cs = cs

-- The changes of one piece of the old list: with each of the new one that overlaps it and has another number.
unfoldable pub against : ℕ → Piece → List Piece → List Change
against w p [] = []
against w p (q ∷ qs) = adding (overlap w p q && differ p q) (shared p q) (against w p qs)

-- The changes from an old list to a new one.
unfoldable pub changes : ℕ → List Piece → List Piece → List Change
changes w [] qs = []
changes w (p ∷ ps) qs = against w p qs ++ changes w ps qs

-- ---- what changes tell

-- The changes in which the address x lies.
unfoldable pub among : ℕ → ℕ → List Change → List Change
among w x [] = []
among w x (c ∷ cs) = adding (holds w x c.was) c (among w x cs)

-- The address x lies in just one change, which carries n as the old number and k as the new one.
pub record JustOneChange (w x n k : ℕ) (cs : List Change) : Type 0 where
  pub change : Change
  pub only : among w x cs ≡ change ∷ []
  pub old : change.was.number ≡ n
  pub new : change.new ≡ k

-- What changes tell of the address x, which has the number n in the old list and k in the new one: it lies in none of them where the two are the
-- same, and in just one where they differ, which carries both.
pub record Tells (w x n k : ℕ) (cs : List Change) : Type 0 where
  pub same : n ≡ k → among w x cs ≡ []
  pub other : (n ≡ k → ⊥) → JustOneChange w x n k cs

-- Changes rise: the first begins at lo or behind it, each other where the one before it ends or behind that.
abbrev pub Rises : ℕ → ℕ → List Change → Type 0
Rises w lo [] = Unit {0}
Rises w lo (c ∷ cs) = (lo ≤ first_of w c.was) × Rises w (past_of w c.was) cs

-- A change the other way round, from the new list to the old one; and all of them.
abbrev pub back : Change → Change
back c = record { was = record { prefix = c.was.prefix; length = c.was.length; number = c.new }; new = c.was.number }

unfoldable pub backs : List Change → List Change
backs [] = []
backs (c ∷ cs) = back c ∷ backs cs
