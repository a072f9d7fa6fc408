-- Prefixes joined by number (document 02, CR 8, "Where all addresses of a subtree have one number, the given one between prefixes"): where along the
-- addresses another number begins.
-- Assumes nothing.
use Rattle.std.specs.Prelude.{ℕ, zero, suc, ◌^◌, Bool, true, false, not, List, [], ◌∷◌, eqb, ltb}
use Rattle.prefix_records.specs.Tiling.{Piece, first_of, past_of}

-- Where a number begins to hold.
pub record Start : Type 0 where
  pub from : ℕ
  pub number : ℕ

-- A start in front of a list, where the test holds.
unfoldable pub keep_start : Bool → Start → List Start → List Start
keep_start true s ss = s ∷ ss
keep_start false s ss = ss

-- Behind a start with the number n: no start of its own where the number stays the same.
unfoldable pub joined_after : ℕ → List Start → List Start
joined_after n [] = []
joined_after n (s ∷ ss) = keep_start (not (eqb s.number n)) s (joined_after s.number ss)

-- Starts joined by number.
abbrev pub joined : List Start → List Start
joined [] = []
joined (s ∷ ss) = s ∷ joined_after s.number ss

-- The starts of pieces that tile the addresses of w bits.
unfoldable pub starts_of : ℕ → List Piece → List Start
starts_of w [] = []
starts_of w (p ∷ ps) = record { from = first_of w p; number = p.number } ∷ starts_of w ps

-- The starts of the n prefixes from prefix i on, and of the gaps between them with the given number, from the address `at` to the end of all.
unfoldable pub filled_from : ℕ → (ℕ → Piece) → ℕ → ℕ → ℕ → ℕ → List Start
filled_from w ps given zero i at = keep_start (ltb at (2 ^ w)) (record { from = at; number = given }) []
filled_from w ps given (suc n) i at =
    keep_start (ltb at (first_of w (ps i))) (record { from = at; number = given })
    (record { from = first_of w (ps i); number = (ps i).number } ∷ filled_from w ps given n (suc i) (past_of w (ps i)))

-- The starts of n prefixes with the gaps at the given number.
abbrev pub filled : ℕ → (ℕ → Piece) → ℕ → ℕ → List Start
filled w ps given n = filled_from w ps given n 0 0
