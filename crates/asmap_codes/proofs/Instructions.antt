-- The round trips of instructions: bytes that hold an instruction's bits have it fetched there, and an instruction that was
-- fetched was read from the bits written for it. An instruction has 5 to 57 bits. On these rest unpack and pack.
-- Assumes nothing.
use mathlib.Core.Path.{◌≡◌, ◌∙◌, refl, sym, ap, subst}
use mathlib.Core.List.{List, ◌++◌, append_assoc}
use Prim.Native.Nat.{ℕ, zero, suc, ◌+◌, ◌-◌, ◌≤◌, ◌<◌}
use native.Mathlib.Omega.{arith}
use lib.ListN.{length, take, drop, length-append}
use lib.Seq.{take-add, drop-drop, drop-append_seam, length-take-le}
use Rattle.asmap_program.specs.Map.{Fetched, Whole, CutOpcode, CutOperand, Stands}
use Rattle.asmap_program.specs.declared.Instruction.{Instruction}
use Rattle.asmap_codes.specs.Bits.{map_bits}
use Rattle.asmap_codes.specs.Row.{Row, type_row, operand_row, span}
use Rattle.asmap_codes.specs.Code.{code, code_at}
use Rattle.asmap_codes.specs.Encode.{encode_of, instruction_bits}
use Rattle.asmap_codes.specs.Instruction.{with_operand, with_opcode, fetch_at, map_of}
use Rattle.asmap_codes.proofs.BitLaws.{bits-drop, bits-map, length_left}
use Rattle.asmap_codes.proofs.RoundTrip.{written_then_read, read_then_written, length_encode}
use Rattle.asmap_codes.proofs.RowLaws.{type_fit}
use Rattle.asmap_codes.proofs.Inside.{value_at, long_operand}
use Rattle.asmap_codes.proofs.MapLaws.{laws, map_fetch, map-bits}
use Rattle.asmap_codes.specs.Reading.{Code, Cut, Value}
use Rattle.std.specs.Prelude.{Option}

-- document 01, Codes: 5 to 57 bits, whatever the operand
pub instruction-length : (op v : ℕ) → op < 4 → (5 ≤ length (instruction_bits op v)) × (length (instruction_bits op v) ≤ 57)
unfolding instruction_bits
instruction-length zero v h = let l = length_encode (operand_row 0).sizes (v - 1) in omega (arith, l.0, l.1)
instruction-length (suc zero) v h = let l = length_encode (operand_row 1).sizes (v - 17) in omega (arith, l.0, l.1)
instruction-length (suc (suc zero)) v h = let l = length_encode (operand_row 2).sizes (v - 2) in omega (arith, l.0, l.1)
instruction-length (suc (suc (suc zero))) v h = let l = length_encode (operand_row 3).sizes (v - 1) in omega (arith, l.0, l.1)
instruction-length (suc (suc (suc (suc op)))) v h = absurd (omega arith)

module _ (m : List ℕ) where
  -- a code of a row that stands at a place of the map
  code_written : (at : ℕ) (row : Row) (v : ℕ) (rest : List ℕ) → row.least ≤ v → v < row.least + span row.sizes
      → drop at (map_bits m) ≡ encode_of row v ++ rest → code_at m at row ≡ Value v (at + length (encode_of row v))
  code_written at row v rest h k e = ap (code row.sizes row.least at) e ∙ written_then_read row v at rest h k

  -- Reading an instruction that was written gives exactly its opcode and operand, at its place and of its length, whatever
  -- stands after it.
  pub written_then_fetched : (p op v : ℕ) (rest : List ℕ) → op < 4 → (operand_row op).least ≤ v → v < (operand_row op).least + span (operand_row op).sizes
      → drop p (map_bits m) ≡ instruction_bits op v ++ rest
      → fetch_at m p ≡ Whole (record { opcode = op; operand = v; place = p; size = length (instruction_bits op v) })
  unfolding fetch_at instruction_bits
  written_then_fetched p op v rest h k l e =
      let A = encode_of type_row op in
      let B = encode_of (operand_row op) v in
      let e₁ : drop p (map_bits m) ≡ A ++ (B ++ rest) = e ∙ append_assoc A B rest in
      let e₂ : drop (p + length A) (map_bits m) ≡ B ++ rest = sym (drop-drop (length A) p (map_bits m)) ∙ ap (drop (length A)) e₁ ∙ drop-append_seam A (B ++ rest) in
      let s : p + length A + length B - p ≡ length (A ++ B) = omega (arith, length-append A B) in
      rw (code_written p type_row op (B ++ rest) (omega arith) h e₁, code_written (p + length A) (operand_row op) v rest k l e₂, s)

  -- ---- what was fetched

  abbrev Holds : ℕ → Fetched → Type 0
  Holds p (Whole i) = take i.size (drop p (map_bits m)) ≡ instruction_bits i.opcode i.operand
  Holds p CutOpcode = Unit {0}
  Holds p (CutOperand op) = Unit {0}

  bits_read : (at : ℕ) (row : Row) (v n : ℕ) → code_at m at row ≡ Value v n → take (n - at) (drop at (map_bits m)) ≡ encode_of row v
  bits_read at row v n e = read_then_written row at (drop at (map_bits m)) v n (bits-drop at (map_bits m) (bits-map m)) e

  operand-holds : (p op e : ℕ) → p < e → take (e - p) (drop p (map_bits m)) ≡ encode_of type_row op
      → (c : Option Code) → code_at m e (operand_row op) ≡ c → Holds p (with_operand p op c)
  unfolding instruction_bits
  operand-holds p op e h t Cut q = tt
  operand-holds p op e h t (Value v n) q =
      let x = value_at m e (operand_row op) v n (long_operand op) q in
      let k : n - p ≡ e - p + (n - e) = omega (arith, x.past) in
      let j : p + (e - p) ≡ e = omega arith in
      let d : drop (e - p) (drop p (map_bits m)) ≡ drop e (map_bits m) = drop-drop (e - p) p (map_bits m) ∙ ap (λ (i : ℕ). drop i (map_bits m)) j in
      rw (k, take-add (e - p) (n - e) (drop p (map_bits m)), d, t, bits_read e (operand_row op) v n q)

  opcode-holds : (p : ℕ) (c : Option Code) → code_at m p type_row ≡ c → Holds p (with_opcode m p c)
  opcode-holds p Cut q = tt
  opcode-holds p (Value op e) q =
      let x = value_at m p type_row op e type_fit.many q in
      operand-holds p op e x.past (bits_read p type_row op e q) (code_at m e (operand_row op)) refl

  fetched-holds : (p : ℕ) → Holds p (fetch_at m p)
  unfolding fetch_at
  fetched-holds p = opcode-holds p (code_at m p type_row) refl

  module _ (p : ℕ) (i : Instruction) (f : fetch_at m p ≡ Whole i) where
    stands : Stands (map_of m) p i
    stands = (laws m).stands p i (map_fetch m p ∙ f)

    -- Writing an instruction that was fetched gives the bits that it was read from.
    pub fetched_then_written : take i.size (drop i.place (map_bits m)) ≡ instruction_bits i.opcode i.operand
    fetched_then_written = rw stands.here (subst (Holds p) f (fetched-holds p))

    pub fetched-length : i.size ≡ length (instruction_bits i.opcode i.operand)
    fetched-length =
        let e = ap length (subst (Holds p) f (fetched-holds p)) in
        omega (arith, e, length-take-le i.size (drop p (map_bits m)) (omega (arith, stands.fits, map-bits m, length_left m p)))

    -- An instruction that is fetched has 5 to 57 bits.
    pub fetched_size : (5 ≤ i.size) × (i.size ≤ 57)
    fetched_size = omega (arith, fetched-length, instruction-length i.opcode i.operand stands.known)
