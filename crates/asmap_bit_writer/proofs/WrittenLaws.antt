-- What the writer's answer says of an opcode and an operand: they are out of range, or its word holds the instruction's bits.
-- Assumes nothing.
use mathlib.Core.Path.{◌≡◌, ◌∙◌, refl, sym}
use mathlib.Core.Logic.{◌≢◌}
use mathlib.Core.Bool.{Bool, true, false, ◌&&◌}
use Prim.Native.Nat.{ℕ, ◌^◌, ◌≤◌, ◌<◌}
use native.Mathlib.Omega.{arith}
use lib.ListN.{length}
use Rattle.asmap_codes.specs.Bits.{low}
use Rattle.asmap_codes.specs.Row.{type_row, operand_row, in_range}
use Rattle.asmap_codes.specs.Encode.{instruction_bits}
use Rattle.asmap_codes.proofs.RowLaws.{within_range}
use Rattle.asmap_encode.specs.Write.{puts, none, pick_written, write_instruction}
use Rattle.asmap_encode.specs.declared.Word.{Word}
use Rattle.asmap_encode.specs.models.Words.{length_written}
use Rattle.asmap_encode.proofs.InstructionLaws.{instruction_word}
use Rattle.asmap_bit_writer.proofs.ByteLaws.{word_lt, low-word_all}
use Rattle.asmap_bit_writer.proofs.InstructionBits.{bits_instruction}
use Rattle.refusals.specs.declared.Refusal.{Refusal}
use Rattle.refusals.specs.declared.Refusal.TheVariants as refusal
use Rattle.std.specs.Prelude.{Result, Ok, Err}

-- the word of an instruction in range
pub record Holding (op v : ℕ) (u : Word) : Type 0 where
  pub ranged : (in_range type_row op && in_range (operand_row op) v) ≡ true
  pub len : u.len ≡ length (instruction_bits op v)
  pub small : u.bits < 2 ^ u.len
  pub short : u.len ≤ 57
  pub bits : low u.len u.bits ≡ instruction_bits op v

-- an instruction in range, and how many bits it has
pub record Measured (op v n : ℕ) : Type 0 where
  pub ranged : (in_range type_row op && in_range (operand_row op) v) ≡ true
  pub len : n ≡ length (instruction_bits op v)
  pub short : n ≤ 57

module _ (op v : ℕ) where
  pub written_some : (u : Word) → write_instruction op v ≡ Ok u → Holding op v u
  written_some u e =
      let h = instruction_word op v u e in
      let l = instruction_bits op v in
      record {
        ranged = rw (within_range type_row op (omega arith) h.known, within_range (operand_row op) v h.above h.below);
        len = h.len;
        small = rw (h.bits, h.len) (word_lt l (bits_instruction op v));
        short = h.most;
        bits = rw (h.bits, h.len) (low-word_all l (bits_instruction op v));
      }

  written_none : (n : Refusal) → write_instruction op v ≡ Err n → (in_range type_row op && in_range (operand_row op) v) ≡ false
  unfolding write_instruction
  written_none n e = go (in_range type_row op && in_range (operand_row op) v) e
    where
      go : (b : Bool) → pick_written b (Ok (puts none (instruction_bits op v))) (Err refusal.OutOfRange) ≡ Err n → b ≡ false
      go true q = let z : ◌≡◌ {A = ℕ} 0 1 = cc in absurd (omega arith)
      go false q = refl

  -- an instruction in range is not refused
  pub written_never : (n : Refusal) → (in_range type_row op && in_range (operand_row op) v) ≡ true → write_instruction op v ≡ Err n → ⊥
  written_never n h e = differ (sym h ∙ written_none n e)
    where
      differ : true ≡ false → ⊥
      differ z = let y : ◌≡◌ {A = ℕ} 0 1 = cc in omega arith

  -- ---- its length alone

  pub measured_some : (n : ℕ) → n ≡ length_written (write_instruction op v) → n ≢ 0 → Measured op v n
  measured_some n e z = go (write_instruction op v) refl e
    where
      go : (x : Result Word Refusal) → write_instruction op v ≡ x → n ≡ length_written x → Measured op v n
      go (Ok u) q l = let h = written_some u q in record { ranged = h.ranged; len = l ∙ h.len; short = omega (arith, h.short) }
      go (Err k) q l = absurd (z l)

  pub measured_none : (n : ℕ) → n ≡ length_written (write_instruction op v) → n ≡ 0 → (in_range type_row op && in_range (operand_row op) v) ≡ false
  measured_none n e z = go (write_instruction op v) refl e
    where
      go : (x : Result Word Refusal) → write_instruction op v ≡ x → n ≡ length_written x → (in_range type_row op && in_range (operand_row op) v) ≡ false
      go (Ok u) q l = absurd (omega (arith, (instruction_word op v u q).some))
      go (Err k) q l = written_none k q
