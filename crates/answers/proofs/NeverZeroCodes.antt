-- No refusal of a code's or an instruction's call has the number 0, so that it keeps what it promises of the numbers that it hands out.
-- Assumes nothing.
use Prim.Native.Nat.{ℕ}
use mathlib.Core.Path.{◌≡◌}
use mathlib.Core.List.{List, ◌∷◌}
use Rattle.answer_outcome.specs.Outcome.{handed, Hands}
use Rattle.asmap_program.specs.declared.Instruction.{Instruction}
use Rattle.asmap_codes.specs.Reading.{Code, Found}
use Rattle.asmap_encode.specs.declared.Word.{Word}
use Rattle.answer_codes.specs.Codes.{code_read, instruction_read, bits_written}
use Rattle.answers.proofs.Handing.{fault_some, refusal_some, Counted, hands}
use Rattle.refusals.specs.declared.Fault.{Fault}
use Rattle.refusals.specs.declared.Refusal.{Refusal}
use Rattle.std.specs.Prelude.{Result, Ok, Err}

pub code_read_lem : (x : Result Code Fault) → Counted (code_read x)
unfolding Counted code_read
code_read_lem (Found value next) = tt
code_read_lem (Err f) = fault_some f

pub code_handed : {x y : Result Code Fault} {r : ℕ} {lent left : List ℕ} → x ≡ y → r ∷ left ≡ handed (code_read x) lent → Hands (code_read y) r lent left
code_handed q e = hands code_read q code_read_lem e

pub instruction_read_lem : (x : Result Instruction Fault) → Counted (instruction_read x)
unfolding Counted instruction_read
instruction_read_lem (Ok i) = tt
instruction_read_lem (Err f) = fault_some f

pub instruction_handed : {x y : Result Instruction Fault} {r : ℕ} {lent left : List ℕ} → x ≡ y → r ∷ left ≡ handed (instruction_read x) lent → Hands (instruction_read y) r lent left
instruction_handed q e = hands instruction_read q instruction_read_lem e

pub bits_written_lem : (x : Result Word Refusal) → Counted (bits_written x)
unfolding Counted bits_written
bits_written_lem (Ok w) = tt
bits_written_lem (Err e) = refusal_some e

pub bits_handed : {x y : Result Word Refusal} {r : ℕ} {lent left : List ℕ} → x ≡ y → r ∷ left ≡ handed (bits_written x) lent → Hands (bits_written y) r lent left
bits_handed q e = hands bits_written q bits_written_lem e
