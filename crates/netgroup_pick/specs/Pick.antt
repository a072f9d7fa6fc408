-- The pick (document 01, Groups and pick; What a call hands back): what is answered, and what the two outputs hold then. The call
-- of the paper checks its map; the other takes the map as it is.
-- Assumes nothing.
use Rattle.std.specs.Prelude.{ℕ, List, length, Result, Ok, Err, Option, Some, None}
use Rattle.peer_lists.specs.Candidates.{candidates_of}
use Rattle.netgroup.specs.Group.{Numbering, by_old_prefixes}
use Rattle.netgroup.specs.Refusal.{limit_refusal, check_refusal}
use Rattle.pick_passes.specs.Ranked.{first, instructions}
use Rattle.pick_passes.specs.Fill.{fill}
use Rattle.pick_passes.specs.Output.{written}
use Rattle.netgroup_pick.specs.declared.Totals.{Totals}
use Rattle.netgroup_pick.specs.PickRefusal.{pick_refusal}
use Rattle.refusals.specs.declared.Refusal.{Refusal}

-- all: the candidates in ranked order
module _ (n : Numbering) (all : List (List ℕ)) (occupied : List ℕ) (max : ℕ) where
  -- the places of all picks
  abbrev pub places : List ℕ
  places = fill all max (first n all occupied max).places

  abbrev pub totals : Totals
  totals = record { total = length places; first = length (first n all occupied max).places; examined = (first n all occupied max).examined; instructions = instructions n all occupied max }

-- the answer, and the two outputs at exit
pub record Handed : Type 0 where
  pub answer : Result Totals Refusal
  pub picks : List ℕ
  pub groups : List ℕ

abbrev pub handed : Result Totals Refusal → List ℕ → List ℕ → Handed
handed answer picks groups = record { answer = answer; picks = picks; groups = groups }

-- a refusal leaves both outputs as they were; a pick writes all picks to the one, and the groups of the first pass to the other
abbrev pub pick_unless : Option Refusal → Numbering → List (List ℕ) → List ℕ → ℕ → List ℕ → List ℕ → Handed
pick_unless None n all occupied max picks groups =
    handed (Ok (totals n all occupied max))
    (written (places n all occupied max) picks)
    (written (first n all occupied max).groups groups)
pick_unless (Some k) n all occupied max picks groups = handed (Err k) picks groups

-- of_map: what is wrong with the map
abbrev pub pick_call : Option Refusal → Numbering → List ℕ → List ℕ → ℕ → List ℕ → List ℕ → Handed
pick_call of_map n bytes occupied max picks groups =
    pick_unless (pick_refusal of_map bytes occupied max picks groups) n (candidates_of bytes) occupied max picks groups

abbrev pub select_diverse : Numbering → List ℕ → List ℕ → ℕ → List ℕ → List ℕ → Handed
select_diverse n = pick_call (check_refusal n) n

abbrev pub select_unchecked : Numbering → List ℕ → List ℕ → ℕ → List ℕ → List ℕ → Handed
select_unchecked n = pick_call (limit_refusal n) n

-- "The old numbering stays callable, in a pick too" (document 02, CR 7)
abbrev pub old_prefix_pick : List ℕ → List ℕ → ℕ → List ℕ → List ℕ → Handed
old_prefix_pick = pick_call None by_old_prefixes
