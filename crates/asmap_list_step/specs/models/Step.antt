-- The listing's step as code has it: the stack in two arrays, what is still to come from a state, and what a step does to that. The arrays
-- have 128 places, one for each bit of the longest address; nothing else here depends on a width.
-- Assumes nothing.
use Rattle.std.specs.Prelude.{ℕ, zero, suc, ◌+◌, ◌-◌, ◌*◌, ◌≤◌, ◌<◌, Bool, true, false, ◌≡◌, List, [], ◌∷◌, ltb, length, get_or, Option, None}
use Rattle.asmap_program.specs.Map.{Map}
use Rattle.asmap_codes.specs.Row.{type_row}
use Rattle.asmap_codes.specs.Code.{code_at}
use Rattle.asmap_codes.specs.Instruction.{map_of}
use Rattle.asmap_listing.specs.models.Scan.{Leaf, leaf, Entry, Side, Half, Scan, popped, bitwise, scanned, Rising}
use Rattle.asmap_list_step.specs.declared.Spot.{Spot}
use Rattle.asmap_list_step.specs.declared.Turn.{Turn}
use Rattle.asmap_list_step.specs.declared.Turn.TheVariants.{Gives, Goes, Ends}
use Rattle.asmap_codes.specs.Reading.{Value}
use Rattle.asmap_list_step.specs.models.Next.{Piece}

-- An entry of the arrays: a JUMP's second half is kept as its bit, a side that differs as its bit and 128 more.
unfoldable pub entry_if : Bool → ℕ → ℕ → Entry
entry_if true b n = Half b n
entry_if false b n = Side (b - 128) n

abbrev pub entry_of : ℕ → ℕ → Entry
entry_of b n = entry_if (ltb b 128) b n

-- The first d entries, the last of them first.
unfoldable pub stack_of : List ℕ → List ℕ → ℕ → List Entry
stack_of bs ns zero = []
stack_of bs ns (suc d) = entry_of (get_or bs d 0) (get_or ns d 0) ∷ stack_of bs ns d

-- The leaves still to come.
unfoldable pub ahead : Map → Bool → ℕ → ℕ → ℕ → Scan → List Leaf
ahead m true at left v s = popped (scanned m 128 at) s.stack
ahead m false at left v s = bitwise (scanned m 128 at) left v s

abbrev pub rest : List ℕ → Spot → List ℕ → List ℕ → List Leaf
rest map s bs ns = ahead (map_of map) s.up s.at s.left s.value (record { used = s.used; default = s.default; stack = stack_of bs ns s.depth })

unfoldable pub one : Bool → ℕ
one true = 1
one false = 0

-- What each step makes less.
abbrev pub weight : List ℕ → Spot → ℕ
weight map s = (8 * length map - s.at) * 2000 + s.left * 4 + s.depth * 2 + one s.up

-- A state that steps come to.
pub record Sane (map : List ℕ) (s : Spot) (bs ns : List ℕ) : Type 0 where
  pub inside : s.at ≤ 8 * length map
  pub bits : s.used + s.left ≤ 128
  pub short : s.left ≤ 31
  pub rising : Rising s.used (stack_of bs ns s.depth)
  pub rooms : (128 ≡ length bs) × (128 ≡ length ns)

-- A step from s with the arrays bs and ns, which it leaves as bs' and ns'.
pub record Onward (map : List ℕ) (s s' : Spot) (bs' ns' : List ℕ) (all more : List Leaf) : Type 0 where
  pub same : all ≡ more
  pub sane : Sane map s' bs' ns'
  pub less : weight map s' < weight map s

abbrev pub Stepped : List ℕ → Spot → List ℕ → List ℕ → List ℕ → List ℕ → Turn → Type 0
Stepped map s bs ns bs' ns' (Gives l n s') = Onward map s s' bs' ns' (rest map s bs ns) (leaf l n ∷ rest map s' bs' ns')
Stepped map s bs ns bs' ns' (Goes s') = Onward map s s' bs' ns' (rest map s bs ns) (rest map s' bs' ns')
Stepped map s bs ns bs' ns' Ends = rest map s bs ns ≡ []

-- Steps from s up to a piece.
abbrev pub Passed : List ℕ → Spot → List ℕ → List ℕ → List ℕ → List ℕ → Option (ℕ × ℕ × Spot) → Type 0
Passed map s bs ns bs' ns' (Piece l n s') = Onward map s s' bs' ns' (rest map s bs ns) (leaf l n ∷ rest map s' bs' ns')
Passed map s bs ns bs' ns' None = rest map s bs ns ≡ []

-- At s the opcode op is read, and its operand starts at `from`.
abbrev pub Reads : List ℕ → Spot → ℕ → ℕ → Type 0
Reads map s op from = (s.up ≡ false) × (s.left ≡ 0) × (code_at map s.at type_row ≡ Value op from)
