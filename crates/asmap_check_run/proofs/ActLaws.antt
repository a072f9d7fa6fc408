-- The model of specs/Act.antt is the step of asmap_program's check on a map's bytes (`act_is`), what it makes sure of (`sure`), and how many
-- pieces the instruction gives (`tells`).
-- Assumes nothing.
use Prim.Native.Nat.{ℕ, zero, suc, ◌+◌, ◌-◌, ◌*◌, ◌≤◌, ◌<◌, max}
use mathlib.Core.Bool.{Bool, true, false, not, ◌&&◌}
use mathlib.Core.Path.{◌≡◌, refl, ◌∙◌}
use mathlib.Core.List.{List, [], ◌∷◌}
use native.Mathlib.Omega.{arith}
use borrow.Author.Tests.{eqb-false, ne_eqb, ltb-false, lt-leb, le-leb}
use lib.Dec.{eqb, ltb, lit<}
use lib.ListN.{length}
use Rattle.asmap_program.specs.declared.Instruction.{Instruction}
use Rattle.asmap_program.specs.declared.Previous.{Previous}
use Rattle.asmap_program.specs.declared.Previous.TheVariants.{Other, Default}
use Rattle.asmap_program.specs.Map.{CutOperand, Operand, cut_reason, length_of}
use Rattle.asmap_program.specs.Check.{Open, State, is_default, is_short, after_match, guard, Outcome, Next, Done, Refuse, closing, step_whole, step_on, step}
use Rattle.asmap_program.specs.models.Pieces.{pieces_of}
use Rattle.asmap_codes.specs.Row.{type_row, operand_row}
use Rattle.asmap_codes.specs.Code.{code_at}
use Rattle.asmap_codes.specs.Instruction.{with_operand, with_opcode, fetch_at, padded_from, map_of}
use Rattle.asmap_codes.proofs.Inside.{value_at, long_operand}
use Rattle.asmap_check_run.specs.models.State.{opens_of, top}
use Rattle.asmap_check_act.specs.models.Act.{past_top}
use Rattle.asmap_check_act.specs.models.Act.{refusing, returned, kept, on_operand, on_opcode, acts}
use Rattle.asmap_check_act.specs.declared.Act.{Act}
use Rattle.asmap_check_act.specs.models.Acts.{Opens, Closes, Uses, Keeps, Accepts, Refuses}
use Rattle.asmap_check_run.proofs.StateLaws.{past_top_lem}
use Rattle.asmap_codes.specs.Reading.{Code, Cut, Value}
use Rattle.std.specs.Prelude.{Option, Result}
use Rattle.refusals.specs.declared.Fault.TheVariants as fault
use Rattle.refusals.specs.declared.Fault.{Fault}

-- the instruction at a place, by what was read of it; where a code is cut, no outcome names it
abbrev instruction : ℕ → ℕ → Option Code → Instruction
instruction p op Cut = record { opcode = op; operand = 0; place = p; size = 0 }
instruction p op (Value v n) = record { opcode = op; operand = v; place = p; size = n - p }

abbrev instruction_at : List ℕ → ℕ → Option Code → Instruction
instruction_at m p Cut = instruction p 0 Cut
instruction_at m p (Value op n) = instruction p op (code_at m n (operand_row op))

abbrev pub here : List ℕ → ℕ → Instruction
here m p = instruction_at m p (code_at m p type_row)

-- what an act makes of a state
abbrev pub closed : State → Instruction → ℕ → List Open → Outcome
closed s i n [] = Refuse fault.NotAtTarget
closed s i n (o ∷ os) =
    Next i (record { at = n; left = o.saved; before = Other; opens = os; count = suc s.count; deepest = s.deepest })

abbrev pub applied : State → Instruction → Result Act Fault → Outcome
applied s i (Opens n t) =
    Next i (record {
      at = n;
      left = s.left - 1;
      before = Other;
      opens = record { target = t; saved = s.left - 1 } ∷ s.opens;
      count = suc s.count;
      deepest = max s.deepest (suc (length s.opens));
    })
applied s i (Closes n) = closed s i n s.opens
applied s i (Uses n k) =
    Next i (record { at = n; left = s.left - k; before = after_match k; opens = s.opens; count = suc s.count; deepest = s.deepest })
applied s i (Keeps n) =
    Next i (record { at = n; left = s.left; before = Default; opens = s.opens; count = suc s.count; deepest = s.deepest })
applied s i Accepts = Done i (suc s.count) s.deepest
applied s i (Refuses n) = Refuse n

guarded : (s : State) (i : Instruction) (b : Bool) (n : Fault) (o : Outcome) (a : Result Act Fault) → o ≡ applied s i a → guard b n o ≡ applied s i (refusing b n a)
unfolding guard refusing
guarded s i true n o a e = refl
guarded s i false n o a e = e

passed : (n : Fault) (o : Outcome) → guard false n o ≡ o
unfolding guard
passed n o = refl

and-true : (b : Bool) → (b && true) ≡ b
and-true true = refl
and-true false = refl

and-false : (b : Bool) → (b && false) ≡ false
and-false true = refl
and-false false = refl

module _ (m ts ss : List ℕ) (left at : ℕ) (before : Previous) (count deepest : ℕ) where
  abbrev s : ℕ → State
  s d = record { at = at; left = left; before = before; opens = opens_of ts ss d; count = count; deepest = deepest }

  closes_is : (d op v n : ℕ) → at < n
      → closing (map_of m) (s d) (instruction at op (Value v n)) (opens_of ts ss d) ≡ applied (s d) (instruction at op (Value v n)) (returned m d (top ts d) (Value v n))
  unfolding map_of
  closes_is zero op v n h =
      let e : at + (n - at) ≡ n = omega arith in
      rw e (guarded (s zero) (instruction at op (Value v n)) (not (padded_from m n)) fault.Padding _ Accepts refl)
  closes_is (suc d) op v n h =
      let e : at + (n - at) ≡ n = omega arith in
      let z : suc d - 1 ≡ d = omega arith in
      rw (e, z, ne_eqb (suc d) 0 (omega arith)) (guarded (s (suc d)) (instruction at op (Value v n)) _ fault.NotAtTarget _ (Closes n) refl)

  whole_is : (d v n : ℕ) → at < n → (op : ℕ)
      → step_whole (map_of m) (s d) (instruction at op (Value v n)) op ≡ applied (s d) (instruction at op (Value v n)) (on_operand m before left d (top ts d) op (Value v n))
  whole_is d v n h zero = guarded (s d) (instruction at 0 (Value v n)) (is_default before) fault.AfterDefault _ (returned m d (top ts d) (Value v n)) (closes_is d 0 v n h)
  whole_is d v n h (suc zero) =
      let e : at + (n - at) ≡ n = omega arith in
      guarded (s d) (instruction at 1 (Value v n)) (eqb left 0) fault.NoBits _ (refusing (past_top d (top ts d) (n + v)) fault.TargetsCross (Opens n (n + v)))
      (rw (e, past_top_lem ts ss d (n + v)) (guarded (s d) (instruction at 1 (Value v n)) (past_top d (top ts d) (n + v)) fault.TargetsCross _ (Opens n (n + v)) refl))
  whole_is d v n h (suc (suc zero)) =
      let e : at + (n - at) ≡ n = omega arith in
      rw e
      (guarded (s d) (instruction at 2 (Value v n)) _ fault.ShortMatches _ (refusing (ltb left (length_of v)) fault.NoBits (Uses n (length_of v)))
      (guarded (s d) (instruction at 2 (Value v n)) _ fault.NoBits _ (Uses n (length_of v)) refl))
  whole_is d v n h (suc (suc (suc op))) =
      let e : at + (n - at) ≡ n = omega arith in
      rw e (guarded (s d) (instruction at (suc (suc (suc op))) (Value v n)) (is_default before) fault.AfterDefault _ (Keeps n) refl)

  cut_is : (d op : ℕ) → op < 4 → step_on (map_of m) (s d) (CutOperand op) ≡ applied (s d) (instruction at op Cut) (on_operand m before left d (top ts d) op Cut)
  cut_is d zero h = rw (and-true (is_default before)) (guarded (s d) (instruction at 0 Cut) (is_default before) fault.AfterDefault _ (Refuses (cut_reason Operand)) refl)
  cut_is d (suc zero) h = rw (and-false (is_default before)) (passed fault.AfterDefault (Refuse (cut_reason Operand)))
  cut_is d (suc (suc zero)) h = rw (and-false (is_default before)) (passed fault.AfterDefault (Refuse (cut_reason Operand)))
  cut_is d (suc (suc (suc zero))) h = rw (and-true (is_default before)) (guarded (s d) (instruction at 3 Cut) (is_default before) fault.AfterDefault _ (Refuses (cut_reason Operand)) refl)
  cut_is d (suc (suc (suc (suc op)))) h = absurd (omega arith)

  operand_is : (d op : ℕ) → op < 4 → (c : Option Code) → ((v n : ℕ) → c ≡ Value v n → at < n)
      → step_on (map_of m) (s d) (with_operand at op c) ≡ applied (s d) (instruction at op c) (on_operand m before left d (top ts d) op c)
  operand_is d op h Cut k = cut_is d op h
  operand_is d op h (Value v n) k = whole_is d v n (k v n refl) op

  opcode_is : (d : ℕ) (c : Option Code) → code_at m at type_row ≡ c
      → step_on (map_of m) (s d) (with_opcode m at c) ≡ applied (s d) (instruction_at m at c) (on_opcode m before left d (top ts d) c)
  opcode_is d Cut q = refl
  opcode_is d (Value op e) q =
      let x = value_at m at type_row op e (lit< tt) q in
      operand_is d op x.below (code_at m e (operand_row op))
      (λ v n z. let y = value_at m e (operand_row op) v n (long_operand op) z in omega (arith, x.past, y.past))

  -- a step inside the map
  pub act_is : (d : ℕ) → at < 8 * length m → step (map_of m) (s d) ≡ applied (s d) (here m at) (acts m before left d (top ts d) at)
  unfolding step map_of fetch_at
  act_is d h =
      rw (lt-leb (8 * length m) at h, past_top_lem ts ss d at)
      (passed fault.MapEnds _ ∙ guarded (s d) (here m at) (past_top d (top ts d) at) fault.PastTarget _ (on_opcode m before left d (top ts d) (code_at m at type_row)) (opcode_is d (code_at m at type_row) refl))

  -- a step at its end
  pub end_is : (d : ℕ) → 8 * length m ≤ at → step (map_of m) (s d) ≡ Refuse fault.MapEnds
  unfolding step guard map_of
  end_is d h = rw (le-leb (8 * length m) at h)

-- what an act is sure of: a bit for a JUMP, an open jump to close, the bits of a MATCH
abbrev pub Sure : ℕ → ℕ → Result Act Fault → Type 0
Sure bits d (Opens n t) = 1 ≤ bits
Sure bits d (Closes n) = 1 ≤ d
Sure bits d (Uses n k) = k ≤ bits
Sure bits d (Keeps n) = Unit {0}
Sure bits d Accepts = Unit {0}
Sure bits d (Refuses n) = Unit {0}

sure_unless : (bits d : ℕ) (b : Bool) (n : Fault) (a : Result Act Fault) → (b ≡ false → Sure bits d a) → Sure bits d (refusing b n a)
unfolding refusing
sure_unless bits d true n a h = tt
sure_unless bits d false n a h = h refl

module _ (m : List ℕ) (p : Previous) (bits t : ℕ) where
  sure-returned : (d : ℕ) (c : Option Code) → Sure bits d (returned m d t c)
  sure-returned d Cut = tt
  sure-returned zero (Value v n) = sure_unless bits 0 (not (padded_from m n)) fault.Padding Accepts (λ _. tt)
  sure-returned (suc d) (Value v n) = rw (ne_eqb (suc d) 0 (omega arith)) (sure_unless bits (suc d) (not (eqb n t)) fault.NotAtTarget (Closes n) (λ _. omega arith))

  sure-kept : (d : ℕ) (c : Option Code) → Sure bits d (kept c)
  sure-kept d Cut = tt
  sure-kept d (Value v n) = tt

  sure_on : (d op : ℕ) (c : Option Code) → Sure bits d (on_operand m p bits d t op c)
  sure_on d zero c = sure_unless bits d (is_default p) fault.AfterDefault (returned m d t c) (λ _. sure-returned d c)
  sure_on d (suc zero) Cut = tt
  sure_on d (suc zero) (Value v n) =
      sure_unless bits d (eqb bits 0) fault.NoBits (refusing (past_top d t (n + v)) fault.TargetsCross (Opens n (n + v)))
      (λ z. sure_unless bits d (past_top d t (n + v)) fault.TargetsCross (Opens n (n + v)) (λ _. omega (arith, eqb-false bits 0 z)))
  sure_on d (suc (suc zero)) Cut = tt
  sure_on d (suc (suc zero)) (Value v n) =
      sure_unless bits d (ltb (length_of v) 8 && is_short p) fault.ShortMatches (refusing (ltb bits (length_of v)) fault.NoBits (Uses n (length_of v)))
      (λ _. sure_unless bits d (ltb bits (length_of v)) fault.NoBits (Uses n (length_of v)) (λ z. ltb-false bits (length_of v) z))
  sure_on d (suc (suc (suc op))) c = sure_unless bits d (is_default p) fault.AfterDefault (kept c) (λ _. sure-kept d c)

  sure_opcode : (d : ℕ) (c : Option Code) → Sure bits d (on_opcode m p bits d t c)
  sure_opcode d Cut = tt
  sure_opcode d (Value op n) = sure_on d op (code_at m n (operand_row op))

  pub sure : (d place : ℕ) → Sure bits d (acts m p bits d t place)
  sure d place = sure_unless bits d (past_top d t place) fault.PastTarget (on_opcode m p bits d t (code_at m place type_row)) (λ _. sure_opcode d (code_at m place type_row))

-- how many pieces the instruction of an act gives
abbrev pub Tells : Instruction → Result Act Fault → Type 0
Tells i (Opens n t) = pieces_of i ≡ 0
Tells i (Closes n) = pieces_of i ≡ 1
Tells i (Uses n k) = pieces_of i ≡ k
Tells i (Keeps n) = pieces_of i ≡ 0
Tells i Accepts = pieces_of i ≡ 1
Tells i (Refuses n) = Unit {0}

tells_unless : (i : Instruction) (b : Bool) (n : Fault) (a : Result Act Fault) → Tells i a → Tells i (refusing b n a)
unfolding refusing
tells_unless i true n a h = tt
tells_unless i false n a h = h

module _ (m : List ℕ) (p : Previous) (bits t : ℕ) where
  tells-returned : (d place : ℕ) (c : Option Code) → Tells (instruction place 0 c) (returned m d t c)
  tells-returned d place Cut = tt
  tells-returned zero place (Value v n) = tells_unless (instruction place 0 (Value v n)) (not (padded_from m n)) fault.Padding Accepts refl
  tells-returned (suc d) place (Value v n) = rw (ne_eqb (suc d) 0 (omega arith)) (tells_unless (instruction place 0 (Value v n)) (not (eqb n t)) fault.NotAtTarget (Closes n) refl)

  tells_on : (d op place : ℕ) (c : Option Code) → Tells (instruction place op c) (on_operand m p bits d t op c)
  tells_on d zero place c = tells_unless (instruction place 0 c) (is_default p) fault.AfterDefault (returned m d t c) (tells-returned d place c)
  tells_on d (suc zero) place Cut = tt
  tells_on d (suc zero) place (Value v n) =
      tells_unless (instruction place 1 (Value v n)) (eqb bits 0) fault.NoBits (refusing (past_top d t (n + v)) fault.TargetsCross (Opens n (n + v)))
      (tells_unless (instruction place 1 (Value v n)) (past_top d t (n + v)) fault.TargetsCross (Opens n (n + v)) refl)
  tells_on d (suc (suc zero)) place Cut = tt
  tells_on d (suc (suc zero)) place (Value v n) =
      tells_unless (instruction place 2 (Value v n)) (ltb (length_of v) 8 && is_short p) fault.ShortMatches (refusing (ltb bits (length_of v)) fault.NoBits (Uses n (length_of v)))
      (tells_unless (instruction place 2 (Value v n)) (ltb bits (length_of v)) fault.NoBits (Uses n (length_of v)) refl)
  tells_on d (suc (suc (suc op))) place Cut = tells_unless (instruction place (suc (suc (suc op))) Cut) (is_default p) fault.AfterDefault (kept Cut) tt
  tells_on d (suc (suc (suc op))) place (Value v n) = tells_unless (instruction place (suc (suc (suc op))) (Value v n)) (is_default p) fault.AfterDefault (kept (Value v n)) refl

  tells_opcode : (d place : ℕ) (c : Option Code) → Tells (instruction_at m place c) (on_opcode m p bits d t c)
  tells_opcode d place Cut = tt
  tells_opcode d place (Value op n) = tells_on d op place (code_at m n (operand_row op))

  pub tells : (d place : ℕ) → Tells (here m place) (acts m p bits d t place)
  tells d place = tells_unless (here m place) (past_top d t place) fault.PastTarget (on_opcode m p bits d t (code_at m place type_row)) (tells_opcode d place (code_at m place type_row))
