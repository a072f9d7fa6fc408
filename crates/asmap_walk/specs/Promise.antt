-- What is promised of each walk of a map that the check accepts: demand 3, and the number that Bitcoin Core gives.
-- Assumes nothing.
use Rattle.std.specs.Prelude.{ℕ, ◌+◌, ◌*◌, ◌≤◌, true, ◌≡◌, length, Result, Ok}
use mathlib.Core.List.{List, Memᴰ}
use Rattle.asmap_program.specs.declared.Instruction.{Instruction}
use Rattle.asmap_program.specs.declared.Kind.TheVariants.{Differed}
use Rattle.asmap_program.specs.Map.{address_bit}
use Rattle.asmap_program.specs.Widths.{is_width}
use Rattle.asmap_program.specs.Check.{unpacked}
use Rattle.asmap_program.specs.Core.{Number, core_interpret}
use Rattle.asmap_program.specs.Demand.{NoDefault, Answers, Walks}
use Rattle.asmap_codes.specs.Core.{file_of}
use Rattle.asmap_codes.specs.Instruction.{map_of}
use Rattle.asmap_check.specs.Check.{check_of}
use Rattle.asmap_walk_bits.specs.Walk.{walk_of, summary}
use Rattle.asmap_walk_bits.specs.declared.Ending.{Ending}
use Rattle.asmap_program.specs.Verdict.{Accepted}
use Rattle.refusals.specs.declared.Refusal.{Refusal}

-- an instruction of this opcode, operand, place and length stands in the list
abbrev pub Listed : List Instruction → ℕ → ℕ → ℕ → ℕ → Type 0
Listed is opcode operand place size = Memᴰ (record { opcode = opcode; operand = operand; place = place; size = size }) is

-- Demand 3 of an ending e, for the map m, the address a and w address bits. Kind, number, count and bits are those of the defined
-- walk, which ended at a RETURN or at a MATCH that differs. Its number is 0 only where it differed before any DEFAULT was read. The
-- count is at most one more than twice the bits read, so at most 2 w + 1. Each instruction that the defined walk reads is listed by
-- unpack, the same in all four. `walks` says how the list that was read ends.
pub record Kept (m a : List ℕ) (w : ℕ) (e : Ending) : Type 0 where
  pub exact : e ≡ summary (walk_of m a w)
  pub ended : Answers e.kind
  pub zero : e.number ≡ 0 → (e.kind ≡ Differed) × NoDefault (walk_of m a w).read
  pub bounded : e.count ≤ 2 * e.bits + 1
  pub most : e.count ≤ 2 * w + 1
  pub listed : (i : Instruction) → Memᴰ i (walk_of m a w).read → Listed (unpacked (map_of m) w) i.opcode i.operand i.place i.size
  pub walks : Walks (unpacked (map_of m) w) w (walk_of m a w)

-- r hands back an ending that has P, if the check accepts the map m and the address a has 16 bytes
abbrev pub WhereAccepted : List ℕ → List ℕ → Result Ending Refusal → (Ending → Type 0) → Type 0
WhereAccepted m a r P = (c d : ℕ) → check_of m 128 ≡ Accepted c d → length a ≡ 16 → (e : Ending) × (r ≡ Ok e) × P e

-- demand 3 at the call: 128 address bits, hence never more than 257 instructions
abbrev pub Demand3 : List ℕ → List ℕ → Result Ending Refusal → Type 0
Demand3 m a r = WhereAccepted m a r (λ (e : Ending). Kept m a 128 e × (e.count ≤ 257))

-- Core's Interpret on the same bytes answers that number; so it never leaves its loop
abbrev pub CoreNumber : List ℕ → List ℕ → Result Ending Refusal → Type 0
CoreNumber m a r = WhereAccepted m a r (λ (e : Ending). core_interpret (address_bit a) 128 (file_of m) ≡ Number e.number)

-- ---- at a width, 32 or 128 (document 02, CR 3)

-- the same of the check at the width w, and of an address of w bits
abbrev pub WhereAcceptedAt : List ℕ → List ℕ → ℕ → Result Ending Refusal → (Ending → Type 0) → Type 0
WhereAcceptedAt m a w r P = is_width w ≡ true → (c d : ℕ) → check_of m w ≡ Accepted c d → 8 * length a ≡ w → (e : Ending) × (r ≡ Ok e) × P e

-- demand 3: what `Kept` says for every w, never more than 2 w + 1 instructions among it
abbrev pub Demand3At : List ℕ → List ℕ → ℕ → Result Ending Refusal → Type 0
Demand3At m a w r = WhereAcceptedAt m a w r (Kept m a w)

abbrev pub CoreNumberAt : List ℕ → List ℕ → ℕ → Result Ending Refusal → Type 0
CoreNumberAt m a w r = WhereAcceptedAt m a w r (λ (e : Ending). core_interpret (address_bit a) w (file_of m) ≡ Number e.number)
