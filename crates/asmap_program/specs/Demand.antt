-- Demand 3 for a walk: what each walk of an accepted map is promised to be. Also what "the default last read" is (document 01, Walk).
-- Assumes nothing.
use Rattle.std.specs.Prelude.{ℕ, ◌+◌, ◌*◌, ◌≤◌, cond, ◌≡◌, ◌⊎◌, ◌≢◌, eqb}
use mathlib.Core.List.{List, [], ◌∷◌, ◌++◌, Memᴰ}
use Rattle.asmap_program.specs.declared.Instruction.{Instruction}
use Rattle.asmap_program.specs.declared.Kind.{Kind}
use Rattle.asmap_program.specs.declared.Kind.TheVariants.{Returned, Differed, OpcodeCut, OperandCut, TooFewBits}
use Rattle.asmap_program.specs.Map.{RETURN, MATCH, DEFAULT}
use Rattle.asmap_program.specs.Walk.{Walked, count_of}

-- The operand of the last DEFAULT among the instructions; d where none is among them.
unfoldable pub default_after : ℕ → List Instruction → ℕ
default_after d [] = d
default_after d (i ∷ is) = default_after (cond (eqb i.opcode DEFAULT) i.operand d) is

-- Document 01, Walk, the default after the instructions read: 0 until a DEFAULT is among them, then the last one's operand. Neither
-- a JUMP nor a place in the map undoes it: only what was read counts.
abbrev pub last_default : List Instruction → ℕ
last_default is = default_after 0 is

-- No DEFAULT is among the instructions.
abbrev pub NoDefault : List Instruction → Type 0
NoDefault is = (i : Instruction) → Memᴰ i is → i.opcode ≢ DEFAULT

-- What the number 0 of a walk says where it is no abort: it ended at a MATCH that differs, before it read any DEFAULT.
abbrev pub ZeroSays : Walked → Type 0
ZeroSays r = r.number ≡ 0 → (r.kind ≡ Differed) × NoDefault r.read

-- The two ends of a walk that have an answer: at a RETURN, or at a MATCH that differs. An abort, of whatever kind, is neither.
abbrev pub Answers : Kind → Type 0
Answers k = (k ≡ Returned) ⊎ (k ≡ Differed)

-- The three ends that have none (document 02, CR 5: a cut opcode or a cut operand; document 01, Walk: too few address bits). Every kind is of these
-- or of the two above, and none is of both (`proofs/Default: ends_either_way`, `never_both`).
abbrev pub Aborts : Kind → Type 0
Aborts k = (k ≡ OpcodeCut) ⊎ ((k ≡ OperandCut) ⊎ (k ≡ TooFewBits))

-- The walk ends at the last instruction that it read: a RETURN, whose operand is the number, or a MATCH that differs, and then the number
-- is d.
pub record EndsWith (d : ℕ) (r : Walked) : Type 0 where
  pub final : Instruction
  pub earlier : List Instruction
  pub split : r.read ≡ earlier ++ (final ∷ [])
  pub how : ((r.kind ≡ Returned) × (final.opcode ≡ RETURN) × (r.number ≡ final.operand)) ⊎ ((r.kind ≡ Differed) × (final.opcode ≡ MATCH) × (r.number ≡ d))

-- The same, where that number is the default last read, or 0.
abbrev pub Finishes : Walked → Type 0
Finishes r = EndsWith (last_default r.read) r

-- A walk r over the list of an accepted map of width w: it ends as told above and so never aborts, reads at most w address bits, has a
-- count of at most twice the bits read and one, which is 2 w + 1 at most, and each instruction that it reads is in the list.
pub record Walks (is : List Instruction) (w : ℕ) (r : Walked) : Type 0 where
  pub ends : Finishes r
  pub zero : ZeroSays r
  pub bits : r.bits ≤ w
  pub count : count_of r ≤ 2 * r.bits + 1
  pub most : count_of r ≤ 2 * w + 1
  pub inside : (i : Instruction) → Memᴰ i r.read → Memᴰ i is
