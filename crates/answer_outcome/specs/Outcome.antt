-- What an exported call answers, and what it leaves in the numbers lent to it (document 01, "What a call hands back").
-- Assumes nothing.
use Rattle.std.specs.Prelude.{ℕ, ◌≡◌, List, ◌∷◌}

-- What a call comes to: the numbers that it hands out, in the order of the numbers lent to it; or a refusal, with its number.
pub data Outcome : Type 0 where
  Done : List ℕ → Outcome
  No : ℕ → Outcome

-- The answer, and after it each lent number at exit; lent: the same numbers at entry. A call that is done answers 0. A refused call
-- answers the refusal's number and leaves every lent number as it was.
unfoldable pub handed : Outcome → List ℕ → List ℕ
handed (Done numbers) lent = 0 ∷ numbers
handed (No n) lent = n ∷ lent

-- A call that was not refused.
unfoldable pub IsDone : Outcome → Type 0
IsDone (Done numbers) = Unit {0}
IsDone (No n) = ⊥

-- What every call promises of its answer r, and of the lent numbers at entry (lent) and at exit (left). An answer of 0 always says
-- that the call was done: no refusal has the number 0.
pub record Hands (o : Outcome) (r : ℕ) (lent left : List ℕ) : Type 0 where
  pub numbers : r ∷ left ≡ handed o lent
  pub zero_is_done : r ≡ 0 → IsDone o
