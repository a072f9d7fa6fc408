-- What a map lists (document 02, CR 1): a piece for each RETURN, and one for the side that differs at each bit of a MATCH. A function over
-- what can be read at each place, with the map's bits as fuel, as the walk is; of any map, accepted or not. A piece is a prefix, whatever the
-- width of the addresses: the width comes in where pieces are held against addresses (`prefix_records/specs/Tiling`).
-- Assumes nothing.
use Rattle.std.specs.Prelude.{ℕ, zero, suc, ◌+◌, ◌-◌, ◌*◌, Bool, true, false, List, [], ◌∷◌, ◌++◌, eqb}
use Rattle.asmap_program.specs.declared.Instruction.{Instruction}
use Rattle.asmap_program.specs.Map.{end_of, target_of, Fetched, Whole, CutOpcode, CutOperand, Map, bit_of, length_of}
use Rattle.prefix_records.specs.Tiling.{Piece}

-- The piece of the u bits of `path`, with the number n.
abbrev pub piece : ℕ → ℕ → ℕ → Piece
piece path u n = record { prefix = path; length = u; number = n }

-- Where a listing stands: the place, how many address bits are used, the number that they make (its path), and the default.
pub record Lister : Type 0 where
  pub at : ℕ
  pub used : ℕ
  pub path : ℕ
  pub default : ℕ

-- The start: map bit 0, no address bit used, default 0.
abbrev pub list_start : Lister
list_start = record { at = 0; used = 0; path = 0; default = 0 }

-- A side that differs, and what follows on the other side: a MATCH bit of 1 has it before what follows, a bit of 0 after it.
unfoldable pub aside : Bool → Piece → List Piece → List Piece
aside true p ps = p ∷ ps
aside false p ps = ps ++ (p ∷ [])

-- A MATCH with default d: the n lowest bits of v, the highest of them first, each beside the path; `rest` is what follows from the path
-- behind the last of them.
unfoldable pub sides : ℕ → (ℕ → List Piece) → ℕ → ℕ → ℕ → ℕ → List Piece
sides d rest zero v path u = rest path
sides d rest (suc n) v path u =
    aside (eqb (bit_of v n) 1) (piece (2 * path + (1 - bit_of v n)) (suc u) d) (sides d rest n v (2 * path + bit_of v n) (suc u))

-- At an instruction read whole, by its opcode, k being the list from a state on. RETURN gives one piece. JUMP gives its end's list and then
-- its target's, both with the default that held at it. DEFAULT sets the default.
abbrev pub list_whole : (Lister → List Piece) → Lister → Instruction → ℕ → List Piece
list_whole k s i zero = piece s.path s.used i.operand ∷ []
list_whole k s i (suc zero) =
    k (record { at = end_of i; used = suc s.used; path = 2 * s.path; default = s.default })
    ++ k (record { at = target_of i; used = suc s.used; path = 2 * s.path + 1; default = s.default })
list_whole k s i (suc (suc zero)) =
    sides s.default
    (λ (path : ℕ). k (record { at = end_of i; used = s.used + length_of i.operand; path = path; default = s.default }))
    (length_of i.operand) i.operand s.path s.used
list_whole k s i (suc (suc (suc n))) = k (record { at = end_of i; used = s.used; path = s.path; default = i.operand })

-- By what can be read here; a cut code gives nothing (an accepted map has none).
abbrev pub list_on : (Lister → List Piece) → Lister → Fetched → List Piece
list_on k s (Whole i) = list_whole k s i i.opcode
list_on k s CutOpcode = []
list_on k s (CutOperand op) = []

module _ (m : Map) where
  -- The list from a state on. Each instruction goes forward by a bit of the map at least, so with f for each bit none is wanting.
  unfoldable pub list_from : ℕ → Lister → List Piece
  list_from zero s = []
  list_from (suc f) s = list_on (λ (s' : Lister). list_from f s') s (m.fetch s.at)

  -- The listing of a map.
  unfoldable pub listing : List Piece
  listing = list_from m.bits list_start
