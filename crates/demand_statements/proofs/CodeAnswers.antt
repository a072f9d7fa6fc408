-- The numbers of reading and writing codes and instructions.
-- Assumes nothing.
use Prim.Native.Nat.{ℕ, zero, suc, ◌+◌, ◌*◌, ◌≤◌, ◌<◌}
use mathlib.Core.Path.{◌≡◌, ◌∙◌, refl, sym, ap, subst}
use mathlib.Core.Bool.{Bool, true, false, ◌&&◌}
use mathlib.Core.Logic.{◌⊎◌, inl, inr}
use mathlib.Core.List.{List, []}
use native.Mathlib.Omega.{arith}
use borrow.Author.Tests.{ltb-true, lt-ltb, le-ltb}
use lib.Dec.{ltb}
use lib.ListN.{length, drop, drop_of_length-le}
use Rattle.std.proofs.lemmas.Bool.Decides.{nat_tests}
use Rattle.asmap_program.specs.Map.{limit, Fetched, Whole, CutOpcode, CutOperand, Part, Opcode, Operand, cut_reason}
use Rattle.asmap_program.specs.Core.{Read}
use Rattle.asmap_codes.specs.Bits.{map_bits}
use Rattle.asmap_codes.specs.Row.{Row, type_row, operand_row, span, in_range}
use Rattle.asmap_codes.specs.Encode.{encode_of, instruction_bits}
use Rattle.asmap_codes.specs.Code.{code, code_at, answered, part_from, read_code}
use Rattle.asmap_codes.specs.Instruction.{answered_whole, fetch_at, with_opcode, read_instruction}
use Rattle.asmap_codes.proofs.BitLaws.{length-map_bits}
use Rattle.asmap_encode.specs.declared.Word.{Word}
use Rattle.asmap_encode.specs.Write.{puts, none, pick_written, write_code, write_instruction}
use Rattle.answer_outcome.specs.Outcome.{Outcome, Done, No, Hands}
use Rattle.answer_codes.specs.Codes.{code_read, instruction_read, bits_written}
use Rattle.answers.specs.Promise.{CoreCode}
use Rattle.demand_statements.specs.Same.{CoreReads}
use Rattle.demand_statements.specs.AnyInput.{Reads, ReadsInstruction, Writes, WritesInstruction, least_operand, greatest_operand}
use Rattle.demand_statements.proofs.AnswerLaws.{kept, refused_as, done_as}
use Rattle.asmap_codes.specs.Reading.{Code, Cut, Value}
use Rattle.refusals.specs.declared.Refusal.TheVariants as refusal
use Rattle.refusals.specs.Numbers.{fault_number}
use Rattle.std.specs.Prelude.{Ok, Err, Option}

-- ---- reading

-- what a read of a map comes to, by whether the map is too long; C: the numbers of its cuts
data Outcomes (C : ℕ → Type 0) : Bool → Outcome → Type 0 where
  long : Outcomes C true (No 1)
  cut : {n : ℕ} → C n → Outcomes C false (No n)
  found : {ns : List ℕ} → Outcomes C false (Done ns)

numbers : {C : ℕ → Type 0} {b : Bool} {o : Outcome} {r : ℕ} {lent left : List ℕ} → Outcomes C b o → Hands o r lent left → (r ≡ 0) ⊎ ((r ≡ 1) ⊎ C r)
numbers long h = inr (inl (refused_as _ refl h))
numbers {C} (cut q) h = inr (inr (subst C (sym (refused_as _ refl h)) q))
numbers found h = inl (done_as _ refl h)

only_long : {C : ℕ → Type 0} {b : Bool} {o : Outcome} {r : ℕ} {lent left : List ℕ} → ((n : ℕ) → C n → n ≡ 1 → ⊥)
    → Outcomes C b o → Hands o r lent left → r ≡ 1 → b ≡ true
only_long others long h z = refl
only_long others (cut {n} q) h z = absurd (others n q (sym (refused_as _ refl h) ∙ z))
only_long others found h z = let k = done_as _ refl h in absurd (omega arith)

-- what every read says, of a code or of an instruction
record Answered (C : ℕ → Type 0) (m : List ℕ) (r : ℕ) (entry exit : List ℕ) : Type 0 where
  numbers : (r ≡ 0) ⊎ ((r ≡ 1) ⊎ C r)
  too_long : 16777216 < length m → r ≡ 1
  only_then : r ≡ 1 → 16777216 < length m
  untouched : (r ≡ 0 → ⊥) → exit ≡ entry

-- o: what the read comes to by whether the map is too long; no cut has the number 1
read_answered : (C : ℕ → Type 0) → ((n : ℕ) → C n → n ≡ 1 → ⊥) → (m : List ℕ) (o : Bool → Outcome) {r : ℕ} {entry exit : List ℕ} → o true ≡ No 1
    → Outcomes C (ltb limit (length m)) (o (ltb limit (length m))) → Hands (o (ltb limit (length m))) r entry exit → Answered C m r entry exit
read_answered C others m o one k h = record {
  numbers = numbers k h;
  too_long = λ l. refused_as _ (ap o (lt-ltb limit (length m) l) ∙ one) h;
  only_then = λ z. ltb-true limit (length m) (only_long others k h z);
  untouched = kept _ h;
}

-- of a map within the limit
read_cut : (m : List ℕ) (o : Bool → Outcome) {r k : ℕ} {entry exit : List ℕ} → Hands (o (ltb limit (length m))) r entry exit
    → length m ≤ 16777216 → o false ≡ No k → r ≡ k
read_cut m o h l e = refused_as _ (ap o (le-ltb limit (length m) l) ∙ e) h

-- nothing can be read at or past the end
nothing : (m : List ℕ) (at : ℕ) → 8 * length m ≤ at → drop at (map_bits m) ≡ []
nothing m at h = drop_of_length-le (map_bits m) {i = at} (omega (arith, length-map_bits m))

read_code_lem : (p : Part) (b : Bool) (c : Option Code) → Outcomes (λ n. n ≡ fault_number (cut_reason p)) b (code_read (answered p b c))
unfolding code_read
read_code_lem p true c = long
read_code_lem p false (Value v n) = found
read_code_lem p false Cut = cut refl

not_1 : (p : Part) → fault_number (cut_reason p) ≡ 1 → ⊥
not_1 Opcode e = absurd (omega arith)
not_1 Operand e = absurd (omega arith)

-- a row's codes are cut where there are no bits
pub code_reads : (m : List ℕ) (at : ℕ) (row : Row) {r : ℕ} {entry exit : List ℕ} → code row.sizes row.least at [] ≡ Cut
    → Hands (code_read (read_code m at row)) r entry exit → Reads (fault_number (cut_reason (part_from row.least))) m at r entry exit
unfolding code_read
code_reads m at row e h =
    let p = part_from row.least in
    let o : Bool → Outcome = λ (b : Bool). code_read (answered p b (code_at m at row)) in
    let a = read_answered (λ n. n ≡ fault_number (cut_reason p)) (λ n q z. not_1 p (sym q ∙ z)) m o refl (read_code_lem p _ (code_at m at row)) h in
    record {
      numbers = a.numbers;
      too_long = a.too_long;
      only_then = a.only_then;
      past_the_end = λ l k. read_cut m o h l (ap (λ (c : Option Code). code_read (answered p false c)) (ap (code row.sizes row.least at) (nothing m at k) ∙ e));
      untouched = a.untouched;
    }

read_instruction_lem : (b : Bool) (f : Fetched) → Outcomes (λ n. (n ≡ 4) ⊎ (n ≡ 19)) b (instruction_read (answered_whole b f))
unfolding instruction_read
read_instruction_lem true f = long
read_instruction_lem false (Whole i) = found
read_instruction_lem false CutOpcode = cut (inl refl)
read_instruction_lem false (CutOperand op) = cut (inr refl)

neither_1 : (n : ℕ) → (n ≡ 4) ⊎ (n ≡ 19) → n ≡ 1 → ⊥
neither_1 n (inl q) z = absurd (omega arith)
neither_1 n (inr q) z = absurd (omega arith)

pub instruction_reads : (m : List ℕ) (at : ℕ) {r : ℕ} {entry exit : List ℕ} → Hands (instruction_read (read_instruction m at)) r entry exit
    → ReadsInstruction m at r entry exit
unfolding instruction_read read_instruction fetch_at
instruction_reads m at h =
    let o : Bool → Outcome = λ (b : Bool). instruction_read (answered_whole b (fetch_at m at)) in
    let a = read_answered (λ n. (n ≡ 4) ⊎ (n ≡ 19)) neither_1 m o refl (read_instruction_lem _ (fetch_at m at)) h in
    record {
      numbers = a.numbers;
      too_long = a.too_long;
      only_then = a.only_then;
      past_the_end = λ l k.
          read_cut m o h l (ap (λ (c : Option Code). instruction_read (answered_whole false (with_opcode m at c))) (ap (code type_row.sizes type_row.least at) (nothing m at k)));
      untouched = a.untouched;
    }

-- ---- writing

-- row: a row whose greatest value is this
module _ (row : Row) (greatest : ℕ) (top : row.least + span row.sizes ≡ greatest + 1) (v : ℕ) where
  inside : row.least ≤ v → v ≤ greatest → in_range row v ≡ true
  inside l h = grind (arith, nat_tests)

  outside : (v < row.least) ⊎ (greatest < v) → in_range row v ≡ false
  outside h = grind (arith, nat_tests)

wrote : (b : Bool) (w : Word) {r : ℕ} {entry exit : List ℕ} → b ≡ true → Hands (bits_written (pick_written b (Ok w) (Err refusal.OutOfRange))) r entry exit → r ≡ 0
unfolding bits_written
wrote b w e h = done_as _ (ap (λ (c : Bool). bits_written (pick_written c (Ok w) (Err refusal.OutOfRange))) e) h

unwritten : (b : Bool) (w : Word) {r : ℕ} {entry exit : List ℕ} → b ≡ false → Hands (bits_written (pick_written b (Ok w) (Err refusal.OutOfRange))) r entry exit → r ≡ 15
unfolding bits_written
unwritten b w e h = refused_as _ (ap (λ (c : Bool). bits_written (pick_written c (Ok w) (Err refusal.OutOfRange))) e) h

pub code_writes : (row : Row) (greatest : ℕ) → row.least + span row.sizes ≡ greatest + 1 → (v : ℕ) {r : ℕ} {entry exit : List ℕ}
    → Hands (bits_written (write_code row v)) r entry exit → Writes row.least greatest v r entry exit
code_writes row greatest top v h = record {
  in_range = λ l k. wrote _ (puts none (encode_of row v)) (inside row greatest top v l k) h;
  out_of_range = λ k. unwritten _ (puts none (encode_of row v)) (outside row greatest top v k) h;
  untouched = kept _ h;
}

-- the row of each opcode's operand
least_operand_lem : (op : ℕ) → (operand_row op).least ≡ least_operand op
least_operand_lem zero = refl
least_operand_lem (suc zero) = refl
least_operand_lem (suc (suc zero)) = refl
least_operand_lem (suc (suc (suc n))) = refl

greatest_operand_lem : (op : ℕ) → (operand_row op).least + span (operand_row op).sizes ≡ greatest_operand op + 1
greatest_operand_lem zero = refl
greatest_operand_lem (suc zero) = refl
greatest_operand_lem (suc (suc zero)) = refl
greatest_operand_lem (suc (suc (suc n))) = refl

pub instruction_writes : (op v : ℕ) {r : ℕ} {entry exit : List ℕ} → Hands (bits_written (write_instruction op v)) r entry exit → WritesInstruction op v r entry exit
unfolding write_instruction
instruction_writes op v h =
    let w = puts none (instruction_bits op v) in
    let n = least_operand_lem op in
    let t = greatest_operand_lem op in
    let both : in_range type_row op ≡ true → in_range (operand_row op) v ≡ true → (in_range type_row op && in_range (operand_row op) v) ≡ true = λ a b. rw (a, b) in
    let first : in_range type_row op ≡ false → (in_range type_row op && in_range (operand_row op) v) ≡ false = λ a. rw a in
    let second : in_range (operand_row op) v ≡ false → (in_range type_row op && in_range (operand_row op) v) ≡ false = λ b. grind (arith, nat_tests) in
    record {
      in_range = λ k l g. wrote _ w (both (inside type_row 3 refl op (omega arith) k) (inside (operand_row op) (greatest_operand op) t v (omega arith) g)) h;
      no_opcode = λ k. unwritten _ w (first (outside type_row 3 refl op (inr k))) h;
      out_of_range = λ k. unwritten _ w (second (outside (operand_row op) (greatest_operand op) t v (rw n k))) h;
      untouched = kept _ h;
    }

-- and what Core reads
pub core_reads : (m : List ℕ) (at answer value next : ℕ) (r : Read) → CoreCode m at answer value next r → CoreReads m at answer value next r
core_reads m at answer value next r p =
    record {
      found = λ h k z. let e = (p h k).0 z in (ap (λ (x : Read). x.value) e.0, ap (λ (x : Read). x.pos) e.0, e.1);
      invalid = λ h k z. (p h k).1 z;
    }
