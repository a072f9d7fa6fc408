-- Bytes give a map that meets asmap_program's laws.
-- Assumes nothing.
use mathlib.Core.Path.{◌≡◌, ◌∙◌, refl, ap, subst}
use mathlib.Core.List.{List}
use Prim.Native.Nat.{ℕ, zero, suc, ◌*◌, ◌≤◌, ◌<◌}
use native.Mathlib.Omega.{arith}
use borrow.Author.Tests.{lt-ltb, le-ltb}
use mathlib.Core.Bool.{false}
use lib.ListN.{length}
use Rattle.asmap_program.specs.Map.{Fetched, Whole, CutOpcode, CutOperand, Laws, Stands}
use Rattle.asmap_codes.specs.Row.{type_row, operand_row}
use Rattle.asmap_codes.specs.Code.{code_at}
use Rattle.asmap_codes.specs.Instruction.{with_operand, with_opcode, fetch_at, map_of, answered_whole, read_instruction}
use Rattle.asmap_codes.proofs.RowLaws.{type_fit}
use Rattle.asmap_codes.proofs.Inside.{value_at, long_operand, past_end}
use Rattle.asmap_codes.specs.Reading.{Code, Cut, Value}
use Rattle.refusals.specs.declared.Fault.TheVariants as fault
use Rattle.std.specs.Prelude.{Err, Option}

least-match : (op : ℕ) → op ≡ 2 → (operand_row op).least ≡ 2
least-match op e = rw e

-- no row of an operand begins below 1
least_operand : (op : ℕ) → 1 ≤ (operand_row op).least
least_operand zero = omega arith
least_operand (suc zero) = omega arith
least_operand (suc (suc zero)) = omega arith
least_operand (suc (suc (suc op))) = omega arith

abbrev Seen : List ℕ → ℕ → Fetched → Type 0
Seen m p (Whole i) = Stands (map_of m) p i
Seen m p CutOpcode = Unit {0}
Seen m p (CutOperand op) = Unit {0}

module _ (m : List ℕ) where
  operand_seen : (p op e : ℕ) → p < e → op < 4 → (c : Option Code) → code_at m e (operand_row op) ≡ c → Seen m p (with_operand p op c)
  unfolding map_of
  operand_seen p op e h k Cut q = tt
  operand_seen p op e h k (Value v n) q =
      let x = value_at m e (operand_row op) v n (long_operand op) q in
      record { here = refl; some = omega (arith, x.past); fits = omega (arith, x.past, x.inside); known = k; from_one = omega (arith, least_operand op, x.above); wide = λ z. omega (arith, least-match op z, x.above) }

  opcode_seen : (p : ℕ) (c : Option Code) → code_at m p type_row ≡ c → Seen m p (with_opcode m p c)
  opcode_seen p Cut q = tt
  opcode_seen p (Value op e) q =
      let x = value_at m p type_row op e type_fit.many q in
      operand_seen p op e x.past x.below (code_at m e (operand_row op)) refl

  seen : (p : ℕ) → Seen m p (fetch_at m p)
  unfolding fetch_at
  seen p = opcode_seen p (code_at m p type_row) refl

  pub fetch-cut : (p : ℕ) → code_at m p type_row ≡ Cut → (map_of m).fetch p ≡ CutOpcode
  unfolding map_of fetch_at
  fetch-cut p e = rw e

  pub laws : Laws (map_of m)
  unfolding map_of
  laws = record { stands = λ p i f. subst (Seen m p) f (seen p); ends = λ p h. fetch-cut p (past_end m p type_row type_fit.many h) }

  -- ---- how an instruction is fetched, as code reads it

  pub fetch_operand : (p op n : ℕ) → code_at m p type_row ≡ Value op n → (c : Option Code) → code_at m n (operand_row op) ≡ c → (map_of m).fetch p ≡ with_operand p op c
  unfolding map_of fetch_at
  fetch_operand p op n e c q = ap (λ (x : Option Code). with_opcode m p x) e ∙ ap (λ (x : Option Code). with_operand p op x) q

  -- what reading an instruction hands back: 1, then by what stands there
  pub instruction_long : (p : ℕ) → 16777216 < length m → read_instruction m p ≡ Err fault.MapTooLong
  unfolding read_instruction
  instruction_long p h = rw (lt-ltb 16777216 (length m) h)

  pub instruction_at_lem : (p : ℕ) → length m ≤ 16777216 → (f : Fetched) → (map_of m).fetch p ≡ f → read_instruction m p ≡ answered_whole false f
  unfolding map_of read_instruction
  instruction_at_lem p h f e = rw (le-ltb 16777216 (length m) h, e)

  pub map_fetch : (p : ℕ) → (map_of m).fetch p ≡ fetch_at m p
  unfolding map_of
  map_fetch p = refl

  pub map-bits : (map_of m).bits ≡ 8 * length m
  unfolding map_of
  map-bits = refl
