-- The check's state as code holds it, two arrays and a depth, and the definition's state that it stands for; and what the loop comes to.
-- Assumes nothing.
use Rattle.std.specs.Prelude.{ℕ, zero, suc, ◌-◌, ◌≡◌, List, [], ◌∷◌, length, get_or}
use Rattle.asmap_program.specs.declared.Previous.{Previous}
use Rattle.asmap_program.specs.Check.{Open, State, check, stop_of, unpacked}
use Rattle.asmap_program.specs.models.Pieces.{count_pieces}
use Rattle.asmap_codes.specs.Instruction.{map_of}
use Rattle.asmap_check_run.specs.declared.CheckState.{CheckState}
use Rattle.asmap_check_run.specs.declared.Judged.{Judged}

-- both arrays have 128 places, as their types say
abbrev pub Arrays : CheckState → Type 0
Arrays s = (length s.targets ≡ 128) × (length s.saved ≡ 128)

-- the open jumps, innermost first: both arrays below the depth
abbrev pub opens_of : List ℕ → List ℕ → ℕ → List Open
opens_of ts ss zero = []
opens_of ts ss (suc d) = record { target = get_or ts d 0; saved = get_or ss d 0 } ∷ opens_of ts ss d

abbrev pub opens : CheckState → List Open
opens s = opens_of s.targets s.saved s.depth

-- the innermost target, where a jump is open
abbrev pub top : List ℕ → ℕ → ℕ
top ts d = get_or ts (d - 1) 0

-- the definition's state that the loop's locals stand for
abbrev pub state_of : CheckState → ℕ → Previous → ℕ → ℕ → State
state_of s at before count deepest = record { at = at; left = s.bits; before = before; opens = opens s; count = count; deepest = deepest }

-- what the loop comes to over w address bits: the check's verdict, the place at which it stops, and the pieces of what it passes up to there
abbrev pub judged : List ℕ → ℕ → Judged
judged m w = record { verdict = check (map_of m) w; place = stop_of (map_of m) w; pieces = count_pieces (unpacked (map_of m) w) }

-- no map has more pieces than so many: 128 for each bit of the longest, and the last one
abbrev pub most : ℕ
most = 17179869185
