-- An instruction is written as its opcode's code with its operand's after it; what the word of a written one holds.
-- Assumes nothing.
use mathlib.Core.Path.{◌≡◌, refl, ap}
use mathlib.Core.Bool.{Bool, true, false, ◌&&◌}
use mathlib.Core.List.{List, [], ◌∷◌, ◌++◌}
use Prim.Native.Nat.{ℕ, zero, suc, ◌+◌, ◌^◌, ◌≤◌, ◌<◌}
use native.Mathlib.Omega.{arith}
use lib.Dec.{lit<, lit≤}
use lib.ListN.{length, length-append}
use Rattle.asmap_codes.specs.Bits.{word}
use Rattle.asmap_codes.specs.Row.{type_row, operand_row, in_range, span}
use Rattle.asmap_codes.specs.Encode.{encode_of, instruction_bits}
use Rattle.asmap_codes.proofs.RowLaws.{range_of}
use Rattle.asmap_codes.proofs.Instructions.{instruction-length}
use Rattle.asmap_codes.proofs.GrownLaws.{both}
use Rattle.asmap_encode.proofs.WordLaws.{puts_word, code-length}
use Rattle.asmap_encode.specs.Write.{put, puts, none, pick_written, write_after, write_code, write_instruction}
use Rattle.asmap_code_parts.specs.models.Parts.{InRow}
use Rattle.asmap_encode.specs.models.Words.{length_written}
use Rattle.asmap_code_parts.specs.declared.Parts.{Parts}
use Rattle.asmap_encode.specs.declared.Word.{Word}
use Rattle.refusals.specs.declared.Refusal.{Refusal}
use Rattle.refusals.specs.declared.Refusal.TheVariants as refusal
use Rattle.std.specs.Prelude.{Ok, Err}

puts-append : (w : Word) (a b : List ℕ) → puts w (a ++ b) ≡ puts (puts w a) b
puts-append w [] b = refl
puts-append w (x ∷ a) b = puts-append (put w x) a b

-- the word of an opcode: at most 3 bits
opcode-word : (op : ℕ) → op < 4 → ((puts none (encode_of type_row op)).bits < 2 ^ (puts none (encode_of type_row op)).len) × ((puts none (encode_of type_row op)).len ≤ 3)
opcode-word zero h = (lit< tt, lit≤ tt)
opcode-word (suc zero) h = (lit< tt, lit≤ tt)
opcode-word (suc (suc zero)) h = (lit< tt, lit≤ tt)
opcode-word (suc (suc (suc zero))) h = (lit< tt, lit≤ tt)
opcode-word (suc (suc (suc (suc op)))) h = absurd (omega arith)

-- what was written was in range
written-bits : (b : Bool) (u w : Word) → pick_written b (Ok u) (Err refusal.OutOfRange) ≡ Ok w → (b ≡ true) × (u ≡ w)
written-bits true u w e = (refl, cc)
written-bits false u w e = let z : ◌≡◌ {A = ℕ} 0 1 = cc in absurd (omega arith)

refused-bits : (b : Bool) (u : Word) (n : Refusal) → pick_written b (Ok u) (Err refusal.OutOfRange) ≡ Err n → (b ≡ false) × (refusal.OutOfRange ≡ n)
refused-bits true u n e = let z : ◌≡◌ {A = ℕ} 0 1 = cc in absurd (omega arith)
refused-bits false u n e = (refl, cc)

module _ (op : ℕ) (w : Word) (e : write_code type_row op ≡ Ok w) where
  -- room for the operand after the opcode
  pub opcode-fits : (w.bits < 2 ^ w.len) × (w.len ≤ 3)
  opcode-fits =
      let h = written-bits (in_range type_row op) (puts none (encode_of type_row op)) w e in
      rw h.1 at (opcode-word op (range_of type_row op h.0).1)

  pub operand_after : (v : ℕ) → write_after w (operand_row op) v ≡ write_instruction op v
  unfolding write_instruction instruction_bits
  operand_after v =
      let h = written-bits (in_range type_row op) (puts none (encode_of type_row op)) w e in
      rw (h.0, puts-append none (encode_of type_row op) (encode_of (operand_row op) v), h.1)

pub opcode_refused : (op v : ℕ) (n : Refusal) → write_code type_row op ≡ Err n → write_instruction op v ≡ Err n
unfolding write_instruction
opcode_refused op v n e =
    let h = refused-bits (in_range type_row op) (puts none (encode_of type_row op)) n e in
    rw (h.0, ← h.1)

-- ---- how many bits are written

module _ (op v : ℕ) where
  pub length_both : (m : ℕ) (p : Parts) (n : ℕ) (q : Parts) → InRow type_row op m p → InRow (operand_row op) v n q → m + p.size + n + q.size ≡ length_written (write_instruction op v)
  unfolding write_instruction instruction_bits
  length_both m p n q r s =
      let w = puts_word none (encode_of type_row op ++ encode_of (operand_row op) v) in
      rw (r.ranged, s.ranged)
      (omega (arith, w.1, length-append (encode_of type_row op) (encode_of (operand_row op) v), code-length type_row op m p r, code-length (operand_row op) v n q s))

  pub length_no_opcode : in_range type_row op ≡ false → 0 ≡ length_written (write_instruction op v)
  unfolding write_instruction
  length_no_opcode e = rw e

  pub length_no_operand : in_range type_row op ≡ true → in_range (operand_row op) v ≡ false → 0 ≡ length_written (write_instruction op v)
  unfolding write_instruction
  length_no_operand e f = rw (e, f)

-- ---- what was written, for those who put words one after the other

-- the instruction was in range, and the word is its bits: 5 to 57 of them
pub record WordOf (op v : ℕ) (w : Word) : Type 0 where
  pub known : op < 4
  pub above : (operand_row op).least ≤ v
  pub below : v < (operand_row op).least + span (operand_row op).sizes
  pub bits : w.bits ≡ word (instruction_bits op v)
  pub len : w.len ≡ length (instruction_bits op v)
  pub some : 5 ≤ w.len
  pub most : w.len ≤ 57

pub instruction_word : (op v : ℕ) (w : Word) → write_instruction op v ≡ Ok w → WordOf op v w
unfolding write_instruction
instruction_word op v w e =
    let h = written-bits (in_range type_row op && in_range (operand_row op) v) (puts none (instruction_bits op v)) w e in
    let b = both (in_range type_row op) (in_range (operand_row op) v) h.0 in
    let o = range_of type_row op b.0 in
    let r = range_of (operand_row op) v b.1 in
    let p = puts_word none (instruction_bits op v) in
    let s = ap (λ (u : Word). u.bits) h.1 in
    let n = ap (λ (u : Word). u.len) h.1 in
    let l = instruction-length op v o.1 in
    record {
      known = o.1;
      above = r.0;
      below = r.1;
      bits = omega (arith, s, p.0);
      len = omega (arith, n, p.1);
      some = omega (arith, n, p.1, l.0);
      most = omega (arith, n, p.1, l.1);
    }
