-- The number that a draw hands out (document 02, CR 6).
-- Assumes nothing.
use Rattle.std.specs.Prelude.{ℕ, ◌∷◌, [], Result, Ok, Err}
use Rattle.answer_outcome.specs.Outcome.{Outcome, Done, No}
use Rattle.refusals.specs.declared.Refusal.{Refusal}
use Rattle.refusals.specs.Numbers.{refusal_number}

unfoldable pub number_drawn : Result ℕ Refusal → Outcome
number_drawn (Ok n) = Done (n ∷ [])
number_drawn (Err e) = No (refusal_number e)
