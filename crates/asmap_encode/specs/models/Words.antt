-- What the code of the writer speaks of on its way: a code's parts in a word. Assumes nothing.
use Rattle.std.specs.Prelude.{ℕ, ◌+◌, ◌-◌, ◌*◌, ◌^◌, ◌≤◌, ◌<◌, Result, Ok, Err, Option}
use Rattle.asmap_codes.specs.Bits.{high, word}
use Rattle.asmap_code_parts.specs.declared.Parts.{Parts}
use Rattle.asmap_encode.specs.declared.Word.{Word}
use Rattle.asmap_code_parts.specs.models.Coded.{In, Out}
use Rattle.refusals.specs.declared.Refusal.{Refusal}
use Rattle.refusals.specs.declared.Refusal.TheVariants as refusal

-- A code's parts fit a word after an opcode's bits: pre is how many bits stand before the size's own.
pub record Short (pre : ℕ) (p : Parts) : Type 0 where
  pub ones : p.ones ≤ pre
  pub prefix : pre ≤ 26
  pub size : p.size ≤ 31
  pub small : p.rest < 2 ^ p.size

abbrev pub Shortened : Option (ℕ × Parts) → Type 0
Shortened (In pre p) = Short pre p
Shortened Out = Unit {0}

-- The number whose lowest bits are a code, by its parts: ones, above them the size's bits in reverse.
abbrev pub number_of : ℕ → Parts → ℕ
number_of pre p = 2 ^ p.ones - 1 + word (high p.size p.rest) * 2 ^ pre

-- A code by its parts after the bits of a word.
abbrev pub after : Word → ℕ → Parts → Word
after w pre p = record { bits = w.bits + number_of pre p * 2 ^ w.len; len = w.len + pre + p.size }

abbrev pub written_as : Word → Option (ℕ × Parts) → Result Word Refusal
written_as w (In pre p) = Ok (after w pre p)
written_as w Out = Err refusal.OutOfRange

-- How many bits were written, none where it was refused.
abbrev pub length_written : Result Word Refusal → ℕ
length_written (Ok w) = w.len
length_written (Err n) = 0
