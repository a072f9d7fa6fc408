-- An instruction that stands in a map, and its bits: what was fetched is what would be written, what was written is fetched, and in the
-- padding nothing is fetched. Rests on the codes' round trips of instructions. Assumes nothing.
use mathlib.Core.Path.{◌≡◌, ◌∙◌, refl, sym, ap, subst}
use mathlib.Core.Bool.{true, ◌&&◌}
use mathlib.Core.List.{List, [], ◌∷◌, ◌++◌}
use Prim.Native.Nat.{ℕ, zero, suc, ◌+◌, ◌-◌, ◌*◌, ◌≤◌, ◌<◌}
use native.Mathlib.Omega.{arith}
use borrow.Author.Tests.{le-leb, lt-leb}
use lib.ListN.{length, take, drop}
use lib.Seq.{drop-drop}
use Rattle.asmap_program.specs.declared.Instruction.{Instruction}
use Rattle.asmap_program.specs.Map.{Whole}
use Rattle.asmap_codes.specs.Bits.{map_bits, all_zero}
use Rattle.asmap_codes.specs.Row.{type_row, asn_row, operand_row, in_range}
use Rattle.asmap_codes.specs.Code.{tail, code, code_at}
use Rattle.asmap_codes.specs.Encode.{instruction_bits}
use Rattle.asmap_codes.specs.Instruction.{with_operand, with_opcode, fetch_at}
use Rattle.asmap_codes.proofs.RowLaws.{type_fit, operand_fit, within_range, range_of}
use Rattle.asmap_codes.proofs.Inside.{value_at}
use Rattle.asmap_codes.proofs.Instructions.{written_then_fetched, fetched_then_written}
use Rattle.asmap_records.proofs.RecordLaws.{and_both}
use Rattle.asmap_codes.specs.Reading.{Code, Cut, Value}
use Rattle.std.specs.Prelude.{Option}

abbrev pub instruction : ℕ → ℕ → ℕ → ℕ → Instruction
instruction op v p n = record { opcode = op; operand = v; place = p; size = n }

-- ---- what was fetched

-- the instruction i at p: both codes were read
record Seen (m : List ℕ) (p : ℕ) (i : Instruction) : Type 0 where
  middle : ℕ
  end : ℕ
  opcode : code_at m p type_row ≡ Value i.opcode middle
  operand : code_at m middle (operand_row i.opcode) ≡ Value i.operand end
  place : i.place ≡ p
  size : i.size ≡ end - p

module _ (m : List ℕ) (p : ℕ) (i : Instruction) where
  seen_operand : (op middle : ℕ) (r : Option Code) → code_at m p type_row ≡ Value op middle → code_at m middle (operand_row op) ≡ r
      → with_operand p op r ≡ Whole i → Seen m p i
  seen_operand op middle Cut e f h = let z : ◌≡◌ {A = ℕ} 0 1 = cc in absurd (omega arith)
  seen_operand op middle (Value v end) e f h =
      let q : instruction op v p (end - p) ≡ i = cc in
      subst (Seen m p) q record { middle = middle; end = end; opcode = e; operand = f; place = refl; size = refl }

  seen_opcode : (r : Option Code) → code_at m p type_row ≡ r → with_opcode m p r ≡ Whole i → Seen m p i
  seen_opcode Cut e h = let z : ◌≡◌ {A = ℕ} 0 1 = cc in absurd (omega arith)
  seen_opcode (Value op middle) e h = seen_operand op middle (code_at m middle (operand_row op)) e refl h

  seen : fetch_at m p ≡ Whole i → Seen m p i
  unfolding fetch_at
  seen h = seen_opcode (code_at m p type_row) refl h

-- an instruction that was fetched: it is in range, and its bits are those that stand there
pub record Stands (m : List ℕ) (p : ℕ) (i : Instruction) : Type 0 where
  pub here : i.place ≡ p
  pub ranged : (in_range type_row i.opcode && in_range (operand_row i.opcode) i.operand) ≡ true
  pub bits : instruction_bits i.opcode i.operand ≡ take i.size (drop p (map_bits m))
  pub inside : p + i.size ≤ 8 * length m
  pub operand : i.operand < 4294967296

pub stands : (m : List ℕ) (p : ℕ) (i : Instruction) → fetch_at m p ≡ Whole i → Stands m p i
stands m p i f =
    let s = seen m p i f in
    let row = operand_row i.opcode in
    let a = value_at m p type_row i.opcode s.middle type_fit.many s.opcode in
    let b = value_at m s.middle row i.operand s.end (operand_fit i.opcode).many s.operand in
    record {
      here = s.place;
      ranged = rw (within_range type_row i.opcode a.above a.below, within_range row i.operand b.above b.below);
      bits = sym (fetched_then_written m p i f) ∙ ap (λ (k : ℕ). take i.size (drop k (map_bits m))) s.place;
      inside = omega (arith, s.size, a.past, b.past, b.inside);
      operand = omega (arith, (operand_fit i.opcode).small, b.below);
    }

-- ---- what was written

-- an instruction in range whose bits stand at p is fetched there
pub fetched : (m : List ℕ) (p op v : ℕ) (rest : List ℕ) → (in_range type_row op && in_range (operand_row op) v) ≡ true
    → drop p (map_bits m) ≡ instruction_bits op v ++ rest → fetch_at m p ≡ Whole (instruction op v p (length (instruction_bits op v)))
fetched m p op v rest h e =
    let r = and_both (in_range type_row op) (in_range (operand_row op) v) h in
    let b = range_of (operand_row op) v r.1 in
    written_then_fetched m p op v rest (range_of type_row op r.0).1 b.0 b.1 e

-- ---- the padding

-- fewer than 8 zeros hold no instruction: the opcode would be RETURN's, whose number has 16 bits at least
no_number : (r : List ℕ) (at : ℕ) → all_zero r ≡ true → length r ≤ 6 → code asn_row.sizes asn_row.least at r ≡ Cut
no_number [] at b h = refl
no_number (zero ∷ r) at b h = rw (lt-leb 15 (length r) (omega arith))
no_number (suc x ∷ r) at b h = let z : ◌≡◌ {A = ℕ} 0 1 = cc in absurd (omega arith)

stop_return : (r : List ℕ) (at : ℕ) → tail 0 0 at r ≡ Value 0 at
stop_return r at = rw (le-leb 0 (length r) (omega arith)) (ap (Value 0) (omega arith))

pub padding : (m : List ℕ) (p : ℕ) (i : Instruction) → all_zero (drop p (map_bits m)) ≡ true → length (drop p (map_bits m)) ≤ 7 → fetch_at m p ≡ Whole i → ⊥
unfolding fetch_at
padding m p i b h f = go (drop p (map_bits m)) refl b h
  where
    go : (l : List ℕ) → drop p (map_bits m) ≡ l → all_zero l ≡ true → length l ≤ 7 → ⊥
    go [] e b h =
        let c : code_at m p type_row ≡ Cut = ap (code type_row.sizes type_row.least p) e in
        let g = sym (ap (with_opcode m p) c) ∙ f in
        let z : ◌≡◌ {A = ℕ} 0 1 = cc in omega arith
    go (zero ∷ r) e b h =
        let c : code_at m p type_row ≡ Value 0 (p + 1) = ap (code type_row.sizes type_row.least p) e ∙ stop_return r (p + 1) in
        let d : drop (p + 1) (map_bits m) ≡ r = sym (drop-drop 1 p (map_bits m)) ∙ ap (drop 1) e in
        let k : code_at m (p + 1) asn_row ≡ Cut = ap (code asn_row.sizes asn_row.least (p + 1)) d ∙ no_number r (p + 1) b (omega arith) in
        let g = sym (ap (with_opcode m p) c ∙ ap (with_operand p 0) k) ∙ f in
        let z : ◌≡◌ {A = ℕ} 0 1 = cc in omega arith
    go (suc x ∷ r) e b h = let z : ◌≡◌ {A = ℕ} 0 1 = cc in omega arith
