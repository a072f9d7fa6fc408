-- The listing as one pass over the instructions in order of place, for code: what is still to come is a stack. A leaf is a piece without
-- its prefix: pieces tile, so each begins where the one before it ends. Nothing of it has to be believed: `proofs/ScanLaws.antt` shows that
-- it gives the listing's pieces.
-- Assumes nothing.
use Rattle.std.specs.Prelude.{ℕ, zero, suc, ◌+◌, ◌-◌, ◌<◌, Bool, true, false, List, [], ◌∷◌, eqb, ltb, leb}
use Rattle.asmap_program.specs.declared.Instruction.{Instruction}
use Rattle.asmap_program.specs.Map.{end_of, Fetched, Whole, CutOpcode, CutOperand, Map, bit_of, length_of}
use Rattle.prefix_records.specs.Tiling.{Piece}

pub record Leaf : Type 0 where
  pub length : ℕ
  pub number : ℕ

abbrev pub leaf : ℕ → ℕ → Leaf
leaf u n = record { length = u; number = n }

unfoldable pub leaves : List Piece → List Leaf
leaves [] = []
leaves (p ∷ ps) = leaf p.length p.number ∷ leaves ps

-- What is still to come for the address bit `bit`: a side that differs, with its number; or a JUMP's second half, with its default.
pub data Entry : Type 0 where
  Side : ℕ → ℕ → Entry
  Half : ℕ → ℕ → Entry

-- Where the pass stands: the address bits used, the default, and what is still to come, the innermost first.
pub record Scan : Type 0 where
  pub used : ℕ
  pub default : ℕ
  pub stack : List Entry

abbrev pub scan_start : Scan
scan_start = record { used = 0; default = 0; stack = [] }

-- A subtree has ended: the sides on the stack are leaves, up to a JUMP, whose second half comes next.
unfoldable pub popped : (Scan → List Leaf) → List Entry → List Leaf
popped k [] = []
popped k (Side u n ∷ st) = leaf (suc u) n ∷ popped k st
popped k (Half u d ∷ st) = k (record { used = suc u; default = d; stack = st })

-- A bit of a MATCH, whether it is 1: the side that differs is a leaf at once, or goes on the stack.
unfoldable pub taken : Bool → Scan → Scan
taken true s = record { used = suc s.used; default = s.default; stack = s.stack }
taken false s = record { used = suc s.used; default = s.default; stack = Side s.used s.default ∷ s.stack }

unfoldable pub given : Bool → Scan → List Leaf → List Leaf
given true s ls = leaf (suc s.used) s.default ∷ ls
given false s ls = ls

unfoldable pub bitwise : (Scan → List Leaf) → ℕ → ℕ → Scan → List Leaf
bitwise k zero v s = k s
bitwise k (suc n) v s = given (eqb (bit_of v n) 1) s (bitwise k n v (taken (eqb (bit_of v n) 1) s))

-- Goes on where the address has bits enough.
unfoldable pub enough : Bool → List Leaf → List Leaf
enough true ls = ls
enough false ls = []

-- At an instruction read whole, over w address bits, k being the leaves from its end on.
abbrev pub scan_whole : ℕ → (Scan → List Leaf) → Scan → Instruction → ℕ → List Leaf
scan_whole w k s i zero = leaf s.used i.operand ∷ popped k s.stack
scan_whole w k s i (suc zero) =
    enough (ltb s.used w) (k (record { used = suc s.used; default = s.default; stack = Half s.used s.default ∷ s.stack }))
scan_whole w k s i (suc (suc zero)) = enough (leb (s.used + length_of i.operand) w) (bitwise k (length_of i.operand) i.operand s)
scan_whole w k s i (suc (suc (suc n))) = k (record { used = s.used; default = i.operand; stack = s.stack })

abbrev pub scan_on : ℕ → (ℕ → Scan → List Leaf) → Scan → Fetched → List Leaf
scan_on w k s (Whole i) = scan_whole w (k (end_of i)) s i i.opcode
scan_on w k s CutOpcode = []
scan_on w k s (CutOperand op) = []

module _ (m : Map) (w : ℕ) where
  unfoldable pub scan_from : ℕ → ℕ → Scan → List Leaf
  scan_from zero at s = []
  scan_from (suc f) at s = scan_on w (λ (p : ℕ) (s' : Scan). scan_from f p s') s (m.fetch at)

  -- The leaves from a place on.
  unfoldable pub scanned : ℕ → Scan → List Leaf
  scanned at s = scan_from (m.bits - at) at s

-- The stack's entries have used a bit each: the innermost one below `used`, each other below the one before it.
abbrev pub bit_of_entry : Entry → ℕ
bit_of_entry (Side u n) = u
bit_of_entry (Half u d) = u

abbrev pub Rising : ℕ → List Entry → Type 0
Rising u [] = Unit {0}
Rising u (e ∷ st) = (bit_of_entry e < u) × Rising (bit_of_entry e) st
