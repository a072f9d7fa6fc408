-- The number that a filter hands out (document 01, Filters).
-- Assumes nothing.
use Rattle.std.specs.Prelude.{Bool, true, false, ◌∷◌, [], Result, Ok, Err}
use Rattle.refusals.specs.declared.Refusal.{Refusal}
use Rattle.refusals.specs.Numbers.{refusal_number}
use Rattle.answer_outcome.specs.Outcome.{Outcome, Done, No}

-- What was asked is so, 1, or not so, 0.
unfoldable pub said : Result Bool Refusal → Outcome
said (Ok true) = Done (1 ∷ [])
said (Ok false) = Done (0 ∷ [])
said (Err e) = No (refusal_number e)
