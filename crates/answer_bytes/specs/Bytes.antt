-- The numbers that a call which writes bytes, or tells how many it would write, hands out: unpack and pack (document 01), the listing
-- (document 02, CR 1), the comparison and the page (document 02, CR 4).
-- Assumes nothing.
use Rattle.std.specs.Prelude.{ℕ, ◌≡◌, List, ◌∷◌, [], length, Result, Ok, Err}
use Rattle.asmap_records.specs.Output.{Making, within, answer_of, leaves}
use Rattle.asmap_compare.specs.Compare.{Comparison, first_made, needed_with}
use Rattle.answer_outcome.specs.Outcome.{Outcome, Done, No, Hands}
use Rattle.refusals.specs.declared.Refusal.{Refusal}
use Rattle.refusals.specs.Numbers.{refusal_number}

-- How many bytes were written, or would be where their number alone was asked for.
unfoldable pub byte_count : Result ℕ Refusal → Outcome
byte_count (Ok n) = Done (n ∷ [])
byte_count (Err e) = No (refusal_number e)

-- A call that writes bytes to a lent output, which holds o at entry and o' at exit. made: what the call makes, before it is known
-- whether the output has room for it.
pub record Writes (made : Making) (o o' : List ℕ) (r : ℕ) (lent left : List ℕ) : Type 0 where
  pub hands : Hands (byte_count (answer_of (within (length o) made))) r lent left
  pub output : o' ≡ leaves (within (length o) made) o

-- A call that asks what a comparison needs, with bytes lent for the first address that differs, which are o at entry and o' at exit.
pub record Finds (c : Comparison) (o o' : List ℕ) (r : ℕ) (lent left : List ℕ) : Type 0 where
  pub hands : Hands (byte_count (needed_with c (within (length o) (first_made c)))) r lent left
  pub output : o' ≡ leaves (within (length o) (first_made c)) o
