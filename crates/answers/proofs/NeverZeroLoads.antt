-- Which numbers a load refuses with, 20 and then 14; no refusal of a draw has the number 0. And what is promised of a draw, in the number handed out.
-- Assumes nothing.
use Prim.Native.Nat.{ℕ}
use mathlib.Core.Path.{◌≡◌}
use mathlib.Core.List.{List, [], ◌∷◌}
use Rattle.asmap_records.specs.Output.{within, answer_of}
use Rattle.asmap_load.specs.Load.{load_of}
use Rattle.answer_outcome.specs.Outcome.{handed, IsDone, Hands}
use Rattle.answer_draws.specs.Draws.{number_drawn}
use Rattle.answer_bytes.specs.Bytes.{byte_count}
use Rattle.answers.proofs.Handing.{refusal_some, Counted, Refuses, hands}
use Rattle.answers.proofs.NeverZeroMaps.{bytes-numbers, refused}
use Rattle.refusals.specs.declared.Refusal.{Refusal}
use Rattle.refusals.specs.declared.Refusal.TheVariants as refusal
use Rattle.std.specs.Prelude.{Result, Ok, Err}

-- 20, then 14
pub load-numbers : (P : ℕ → Type 0) (k s n : ℕ) → P 20 → P 14 → Refuses P (byte_count (answer_of (within k (load_of s n))))
unfolding load_of
load-numbers P k s n none short = bytes-numbers P k (load_of s n) short (refused P _ refusal.Load _ none tt)

pub draw_drawn : (x : Result ℕ Refusal) → Counted (number_drawn x)
unfolding Counted number_drawn
draw_drawn (Ok n) = tt
draw_drawn (Err e) = refusal_some e

pub draw_handed : {x y : Result ℕ Refusal} {r : ℕ} {lent left : List ℕ} → x ≡ y → r ∷ left ≡ handed (number_drawn x) lent → Hands (number_drawn y) r lent left
draw_handed q e = hands number_drawn q draw_drawn e

-- the number handed out, where a draw is done
pub number_drawn_lem : (x : Result ℕ Refusal) {r n : ℕ} {lent : List ℕ} → Hands (number_drawn x) r lent (n ∷ []) → r ≡ 0 → x ≡ Ok n
unfolding handed IsDone number_drawn
number_drawn_lem (Ok m) h z = let e = h.numbers in cc
number_drawn_lem (Err m) h z = absurd (h.zero_is_done z)
