-- Demand 3 for a walk, as a caller of the check and the walk reads it off the numbers handed out.
-- Assumes nothing.
use Rattle.std.specs.Prelude.{ℕ, ◌+◌, ◌*◌, ◌/◌, ◌≤◌, ◌≡◌, ◌⊎◌, ◌≢◌, length, get_or}
use mathlib.Core.List.{List, [], ◌∷◌, ◌++◌, Memᴰ}
use Rattle.asmap_program.specs.declared.Instruction.{Instruction}
use Rattle.asmap_program.specs.declared.Kind.TheVariants.{Returned, Differed}
use Rattle.asmap_program.specs.Check.{unpacked}
use Rattle.asmap_codes.specs.Instruction.{map_of}
use Rattle.asmap_check.specs.Check.{check_of}
use Rattle.asmap_walk_bits.specs.Walk.{walk_of}
use Rattle.asmap_program.specs.Verdict.{Accepted}

-- The last instruction read is a RETURN, 0, whose operand is the number, where the kind is 1; it is a MATCH, 2, where the kind is 2.
pub record EndsAt (read : List Instruction) (kind number : ℕ) : Type 0 where
  pub earlier : List Instruction
  pub final : Instruction
  pub split : read ≡ earlier ++ (final ∷ [])
  pub at_return : kind ≡ 1 → (final.opcode ≡ 0) × (number ≡ final.operand)
  pub at_match : kind ≡ 2 → final.opcode ≡ 2

-- The numbers of a walk of the map m by w bits of the address a, against the defined walk (`walk_of m a w`). It ended at a RETURN, 1, or at a MATCH
-- that differs, 2, and so it did not abort. Number, count and bits are the defined walk's, the count being how many
-- instructions that walk reads. A number 0 is that of a difference before any DEFAULT, opcode 3, was read. Each instruction read is in
-- the map's unpacked list, the same in opcode, operand, place and length.
pub record Walked (m a : List ℕ) (w kind number count bits : ℕ) : Type 0 where
  pub ended : (kind ≡ 1) ⊎ (kind ≡ 2)
  pub returned : kind ≡ 1 → (walk_of m a w).kind ≡ Returned
  pub differed : kind ≡ 2 → (walk_of m a w).kind ≡ Differed
  pub last : EndsAt (walk_of m a w).read kind number
  pub same_number : number ≡ (walk_of m a w).number
  pub same_count : count ≡ length (walk_of m a w).read
  pub same_bits : bits ≡ (walk_of m a w).bits
  pub zero : number ≡ 0 → (kind ≡ 2) × ((i : Instruction) → Memᴰ i (walk_of m a w).read → i.opcode ≢ 3)
  pub bounded : count ≤ 2 * bits + 1
  pub most : count ≤ 2 * w + 1
  pub listed : (i : Instruction) → Memᴰ i (walk_of m a w).read → Memᴰ i (unpacked (map_of m) w)

-- A caller who checks the map and then walks it, r being the answer: 0 for every map that the check accepts and every address of
-- w bits, and for no other; and then the walk is as told above. At 128 the count is at most 257.
pub record AcceptedWalk (m a : List ℕ) (w r kind number count bits : ℕ) : Type 0 where
  pub answered : (c d : ℕ) → check_of m w ≡ Accepted c d → length a ≡ w / 8 → r ≡ 0
  pub accepted : r ≡ 0 → (c : ℕ) × (d : ℕ) × (check_of m w ≡ Accepted c d)
  pub bytes : r ≡ 0 → length a ≡ w / 8
  pub walked : r ≡ 0 → Walked m a w kind number count bits

-- ---- the same in the bytes that unpack writes

-- the four bytes from byte k on, the lowest first
abbrev pub little : List ℕ → ℕ → ℕ
little o k = get_or o k 0 + 256 * get_or o (k + 1) 0 + 65536 * get_or o (k + 2) 0 + 16777216 * get_or o (k + 3) 0

-- Record number j among the first n bytes of o is that of the instruction i: its opcode, operand, place and length.
pub record RecordAt (o : List ℕ) (n j : ℕ) (i : Instruction) : Type 0 where
  pub inside : 16 * j + 16 ≤ n
  pub opcode : get_or o (16 * j) 0 ≡ i.opcode
  pub operand : little o (16 * j + 4) ≡ i.operand
  pub place : little o (16 * j + 8) ≡ i.place
  pub size : little o (16 * j + 12) ≡ i.size

-- Each instruction that the defined walk reads has its record among the n bytes that unpack wrote.
abbrev pub InRecords : List ℕ → List ℕ → ℕ → List ℕ → ℕ → Type 0
InRecords m a w o n = (i : Instruction) → Memᴰ i (walk_of m a w).read → (j : ℕ) × RecordAt o n j i
