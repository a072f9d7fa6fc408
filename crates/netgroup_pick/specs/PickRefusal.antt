-- Why a pick is refused (document 01, What a call hands back), in the paper's order: the list's 13, 12, 13, the map, 14.
-- Assumes nothing.
use Rattle.std.specs.Prelude.{ℕ, ◌/◌, min, List, ltb, length, Option}
use Rattle.peer_lists.specs.Refusal.{refuse_if, or_else, list_refusal}
use Rattle.refusals.specs.declared.Refusal.{Refusal}
use Rattle.refusals.specs.declared.Refusal.TheVariants as refusal

-- the outputs: no more than max, and no more than the candidates, can go out
abbrev pub room_refusal : ℕ → ℕ → List ℕ → List ℕ → Option Refusal
room_refusal count max picks groups =
    or_else (refuse_if (ltb (length picks) (min max count)) refusal.OutputTooShort)
    (refuse_if (ltb (length groups) (min max count)) refusal.OutputTooShort)

-- of_map: what is wrong with the map
abbrev pub pick_refusal : Option Refusal → List ℕ → List ℕ → ℕ → List ℕ → List ℕ → Option Refusal
pick_refusal of_map bytes occupied max picks groups =
    or_else (list_refusal bytes occupied) (or_else of_map (room_refusal (length bytes / 20) max picks groups))
