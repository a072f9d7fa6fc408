-- No refusal of a filter has the number 0.
-- Assumes nothing.
use Prim.Native.Nat.{ℕ}
use mathlib.Core.Path.{◌≡◌}
use mathlib.Core.List.{List, ◌∷◌}
use Rattle.answer_outcome.specs.Outcome.{handed, Hands}
use mathlib.Core.Bool.{Bool, true, false}
use Rattle.answer_filters.specs.Filters.{said}
use Rattle.answers.proofs.Handing.{refusal_some, Counted, hands}
use Rattle.refusals.specs.declared.Refusal.{Refusal}
use Rattle.std.specs.Prelude.{Result, Ok, Err}

pub said_lem : (x : Result Bool Refusal) → Counted (said x)
unfolding Counted said
said_lem (Ok true) = tt
said_lem (Ok false) = tt
said_lem (Err e) = refusal_some e

pub said_handed : {x y : Result Bool Refusal} {r : ℕ} {lent left : List ℕ} → x ≡ y → r ∷ left ≡ handed (said x) lent → Hands (said y) r lent left
said_handed q e = hands said q said_lem e
