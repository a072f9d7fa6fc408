-- Which of an instruction's two codes is cut, and that the check hands it on.
-- Assumes nothing.
use Prim.Native.Nat.{ℕ, ◌≤◌}
use mathlib.Core.Path.{◌≡◌, ◌∙◌, refl, sym, ap, subst}
use mathlib.Core.Bool.{Bool, true, false}
use mathlib.Core.Logic.{◌≢◌}
use mathlib.Core.List.{List}
use native.Mathlib.Omega.{arith}
use lib.Dec.{ltb}
use lib.ListN.{length}
use Rattle.asmap_program.specs.Map.{limit, Opcode, Fetched, CutOpcode, CutOperand}
use Rattle.asmap_program.proofs.Refusals.{Shows, stops_at_a_cut}
use Rattle.asmap_codes.specs.Row.{type_row, operand_row}
use Rattle.asmap_codes.specs.Code.{code_at, answered, read_code}
use Rattle.asmap_codes.specs.Instruction.{map_of, with_operand, with_opcode, fetch_at, answered_whole, read_instruction}
use Rattle.asmap_codes.proofs.MapLaws.{laws, instruction_at_lem}
use Rattle.asmap_check.specs.Check.{check_of}
use Rattle.asmap_check.proofs.Limit.{checked}
use Rattle.answer_outcome.specs.Outcome.{No, Hands}
use Rattle.answer_codes.specs.Codes.{code_read, instruction_read}
use Rattle.demand_statements.specs.AnyInput.{Stops}
use Rattle.demand_statements.specs.Cut.{WhichIsCut, HandedOn}
use Rattle.demand_statements.proofs.AnswerLaws.{refused_as, done_as}
use Rattle.asmap_program.specs.Verdict.{Verdict}
use Rattle.asmap_codes.specs.Reading.{Code, Cut, Value}
use Rattle.refusals.specs.declared.Fault.{Fault}
use Rattle.refusals.specs.declared.Fault.TheVariants as fault
use Rattle.refusals.specs.Numbers.{fault_number}
use Rattle.std.specs.Prelude.{Err, Option, Ok}

-- ---- an opcode read, and the instruction at the same bit

-- an instruction behind an opcode: done, or its operand is cut
behind : (at op : ℕ) (c : Option Code) {r : ℕ} {entry exit : List ℕ} → Hands (instruction_read (answered_whole false (with_operand at op c))) r entry exit → r ≢ 0 → r ≡ 19
unfolding instruction_read
behind at op (Value v n) h z = absurd (z (done_as _ refl h))
behind at op Cut h z = refused_as _ refl h

-- long: whether the map is too long; c: the opcode as it was read
which : (m : List ℕ) (at : ℕ) (long : Bool) (c : Option Code) {q r : ℕ} {lent left entry exit : List ℕ} → Hands (code_read (answered Opcode long c)) q lent left
    → Hands (instruction_read (answered_whole long (with_opcode m at c))) r entry exit → WhichIsCut q r
unfolding code_read instruction_read
which m at true c k h = let one = refused_as _ refl k in record { opcode = λ z. absurd (omega arith); operand = λ z. absurd (omega arith) }
which m at false Cut k h = let four = refused_as _ refl k in record { opcode = λ z. refused_as _ refl h; operand = λ z. absurd (omega arith) }
which m at false (Value op n) k h =
    let done = done_as _ refl k in
    record { opcode = λ z. absurd (omega arith); operand = λ z. behind at op (code_at m n (operand_row op)) h }

pub which_is-cut : (m : List ℕ) (at : ℕ) {q r : ℕ} {lent left entry exit : List ℕ} → Hands (code_read (read_code m at type_row)) q lent left
    → Hands (instruction_read (read_instruction m at)) r entry exit → WhichIsCut q r
unfolding read_instruction fetch_at
which_is-cut m at k h = which m at (ltb limit (length m)) (code_at m at type_row) k h

-- ---- the faults of cut codes have numbers to themselves

cut_opcode : (f : Fault) → fault_number f ≡ 4 → f ≡ fault.CutOpcode
cut_opcode fault.MapTooLong e = absurd (omega arith)
cut_opcode fault.MapEnds e = absurd (omega arith)
cut_opcode fault.PastTarget e = absurd (omega arith)
cut_opcode fault.CutOpcode e = refl
cut_opcode fault.AfterDefault e = absurd (omega arith)
cut_opcode fault.Padding e = absurd (omega arith)
cut_opcode fault.NotAtTarget e = absurd (omega arith)
cut_opcode fault.NoBits e = absurd (omega arith)
cut_opcode fault.TargetsCross e = absurd (omega arith)
cut_opcode fault.ShortMatches e = absurd (omega arith)
cut_opcode fault.CutOperand e = absurd (omega arith)

cut_operand : (f : Fault) → fault_number f ≡ 19 → f ≡ fault.CutOperand
cut_operand fault.MapTooLong e = absurd (omega arith)
cut_operand fault.MapEnds e = absurd (omega arith)
cut_operand fault.PastTarget e = absurd (omega arith)
cut_operand fault.CutOpcode e = absurd (omega arith)
cut_operand fault.AfterDefault e = absurd (omega arith)
cut_operand fault.Padding e = absurd (omega arith)
cut_operand fault.NotAtTarget e = absurd (omega arith)
cut_operand fault.NoBits e = absurd (omega arith)
cut_operand fault.TargetsCross e = absurd (omega arith)
cut_operand fault.ShortMatches e = absurd (omega arith)
cut_operand fault.CutOperand e = refl

-- ---- where the check stops, and the instruction there

module _ (m : List ℕ) (w : ℕ) {a reason place r : ℕ} {lent entry exit : List ℕ} (s : Stops m w a lent reason place) (z : a ≡ 0)
    (h : Hands (instruction_read (read_instruction m place)) r entry exit) where
  short : length m ≤ 16777216
  short = let f = s.too_long in grind arith

  -- what the check finds wrong has the reason's number, and is what can be read there
  shows : reason ≢ 0 → (f : Fault) × (fault_number f ≡ reason) × Shows (map_of m) place f
  shows n = by (check_of m w) refl
    where
      by : (v : Verdict) → check_of m w ≡ v → (f : Fault) × (fault_number f ≡ reason) × Shows (map_of m) place f
      by (Ok got) e = absurd (n (s.accepted got.count got.depth z e))
      by (Err f) e =
          (f, sym (s.refused f z e), subst (λ (p : ℕ). Shows (map_of m) p f) (sym (s.exact z)) (stops_at_a_cut (map_of m) (laws m) w f (checked m w short ∙ e)))

  read_as : (f : Fetched) → (map_of m).fetch place ≡ f → {k : ℕ} → instruction_read (answered_whole false f) ≡ No k → r ≡ k
  read_as f e q = refused_as _ (ap instruction_read (instruction_at_lem m place short f e) ∙ q) h

  pub handed_on : HandedOn reason r
  unfolding instruction_read
  handed_on = record {
    opcode = λ _ e. let k = shows (λ n. omega arith) in read_as CutOpcode (k.2.opcode (cut_opcode k.0 (k.1 ∙ e))) refl;
    operand = λ _ e. let k = shows (λ n. omega arith) in let x = k.2.operand (cut_operand k.0 (k.1 ∙ e)) in read_as (CutOperand x.0) x.1 refl;
  }

-- a map that is too long has no place
pub not_handed_on : (m : List ℕ) (w : ℕ) {a reason place : ℕ} {lent : List ℕ} → Stops m w a lent reason place → a ≢ 0 → HandedOn reason a
not_handed_on m w {a} s n = record { opcode = λ k e. absurd (k one); operand = λ k e. absurd (k one) }
  where
    one : a ≡ 1
    one = let f = s.answered in let g = s.too_long in grind arith
