-- The defined walk (document 01, Walk; `interpret`), begun with w address bits (document 02, CR 3). It is made from the map and the address
-- alone, and of any map, accepted or not.
-- Assumes nothing.
use Rattle.std.specs.Prelude.{ℕ, zero, suc, ◌+◌, Bool, true, false, cond, List, [], ◌∷◌, leb, ltb, eqb, length}
use Rattle.asmap_program.specs.declared.Instruction.{Instruction}
use Rattle.asmap_program.specs.declared.Walker.{Walker}
use Rattle.asmap_program.specs.declared.Kind.{Kind}
use Rattle.asmap_program.specs.declared.Kind.TheVariants.{Returned, Differed, OpcodeCut, OperandCut, TooFewBits}
use Rattle.asmap_program.specs.Map.{end_of, target_of, Fetched, Whole, CutOpcode, CutOperand, Map, bit_of, length_of}

-- Walk, the result: the kind of end, the number, the address bits read (one that differs is among them), and the instructions that were
-- read whole, in order.
pub record Walked : Type 0 where
  pub kind : Kind
  pub number : ℕ
  pub bits : ℕ
  pub read : List Instruction

-- Walk, "count": how many instructions were read whole.
abbrev pub count_of : Walked → ℕ
count_of r = length r.read

-- Walk, the start with w address bits: map bit 0, none of them used, default 0. The state carries the width (document 02, CR 3), and no turn
-- changes it.
abbrev pub walk_start : ℕ → Walker
walk_start w = record { at = 0; used = 0; width = w; default = 0 }

-- What a turn of the walk comes to: behind an instruction, on; or the end.
pub data Turn : Type 0 where
  Goes : Instruction → Walker → Turn
  Stops : Walked → Turn

-- What a MATCH comes to: all its bits were equal, or one differed, with so many address bits read by then.
pub data Compared : Type 0 where
  Equal : Compared
  Different : ℕ → Compared

-- Walk, the abort, of the kind k: number 0. What this turn read whole counts as read; its address bits are those used before it.
abbrev pub aborted : Kind → Walker → List Instruction → Turn
aborted k s is = Stops (record { kind = k; number = 0; bits = s.used; read = is })

-- A JUMP or a MATCH goes on where the address has bits enough for it, and else aborts.
unfoldable pub enough : Bool → Walker → Instruction → Turn → Turn
enough true s i t = t
enough false s i t = aborted TooFewBits s (i ∷ [])

-- A result with one instruction more, read before it.
abbrev pub push : Instruction → Walked → Walked
push i r = record { kind = r.kind; number = r.number; bits = r.bits; read = i ∷ r.read }

-- The result after a turn, k being the result from a state on.
abbrev pub go_on : (Walker → Walked) → Turn → Walked
go_on k (Goes i s) = push i (k s)
go_on k (Stops r) = r

-- a: the address, its bit at each place
module _ (a : ℕ → ℕ) where
  -- Walk, MATCH: the n lowest bits of v, the highest of them first, each against the next address bit, from bit u on. The first that
  -- differs ends it, and is read.
  unfoldable pub compared : ℕ → ℕ → ℕ → Compared
  compared zero v u = Equal
  compared (suc n) v u = cond (eqb (bit_of v n) (a u)) (compared n v (suc u)) (Different (suc u))

-- Walk, MATCH, after comparing: on at its end where all bits were equal; at a difference the walk ends, with the default as its number.
abbrev pub meeting : Walker → Instruction → Compared → Turn
meeting s i Equal = Goes i (record { at = end_of i; used = s.used + length_of i.operand; width = s.width; default = s.default })
meeting s i (Different u) = Stops (record { kind = Differed; number = s.default; bits = u; read = i ∷ [] })

module _ (a : ℕ → ℕ) (m : Map) where
  -- Walk, at an instruction read whole, by its opcode. RETURN ends the walk with its operand. JUMP uses an address bit, and goes to its
  -- target where that is 1 (though the target be past the map's end), else to its end. MATCH compares its operand's bits below the
  -- leading one. DEFAULT makes its operand the default, until another does; it uses no address bit.
  abbrev pub turn_whole : Walker → Instruction → ℕ → Turn
  turn_whole s i zero = Stops (record { kind = Returned; number = i.operand; bits = s.used; read = i ∷ [] })
  turn_whole s i (suc zero) =
      enough (ltb s.used s.width) s i
      (Goes i (record { at = cond (eqb (a s.used) 1) (target_of i) (end_of i); used = suc s.used; width = s.width; default = s.default }))
  turn_whole s i (suc (suc zero)) =
      enough (leb (s.used + length_of i.operand) s.width) s i (meeting s i (compared a (length_of i.operand) i.operand s.used))
  turn_whole s i (suc (suc (suc n))) = Goes i (record { at = end_of i; used = s.used; width = s.width; default = i.operand })

  -- Walk, by what can be read here: a code cut by the map's end aborts, and its instruction is not read. The kind tells which of the two codes
  -- it was (document 02, CR 5).
  abbrev pub turn_on : Walker → Fetched → Turn
  turn_on s (Whole i) = turn_whole s i i.opcode
  turn_on s CutOpcode = aborted OpcodeCut s []
  turn_on s (CutOperand op) = aborted OperandCut s []

  -- Turns until one ends the walk. Each goes forward by a bit of the map at least, so with a turn for each bit none is wanting: when they
  -- are used up the place is the map's end or past it, where an opcode is cut.
  unfoldable pub walk_from : ℕ → Walker → Walked
  walk_from zero s = record { kind = OpcodeCut; number = 0; bits = s.used; read = [] }
  walk_from (suc f) s = go_on (λ (s' : Walker). walk_from f s') (turn_on s (m.fetch s.at))

  -- The walk of the address, by its first w bits, through the map.
  unfoldable pub walk : ℕ → Walked
  walk w = walk_from m.bits (walk_start w)
