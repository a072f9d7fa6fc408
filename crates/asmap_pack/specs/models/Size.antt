-- What the code of pack speaks of on its way: where records end, and the bits that they are. Assumes nothing.
use Rattle.std.specs.Prelude.{ℕ, ◌+◌, List, [], length, Result, Ok, Err}
use Rattle.asmap_records.specs.Output.{Making, Made, No}
use Rattle.refusals.specs.declared.Refusal.{Refusal}

-- Where bits made from `at` on end.
abbrev pub size_from : ℕ → Making → Result ℕ Refusal
size_from at (Made bs) = Ok (at + length bs)
size_from at (No n) = Err n

-- The bits made, none after a refusal.
abbrev pub bits_in : Making → List ℕ
bits_in (Made bs) = bs
bits_in (No n) = []
