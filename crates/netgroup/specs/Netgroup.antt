-- The group calls (document 01, Groups and pick): 13, then what is wrong with the map, else the candidate's group. The call of the
-- paper checks its map; the other takes the map as it is.
-- Assumes nothing.
use Rattle.std.specs.Prelude.{ℕ, List, Result, Ok, Err, Option, Some, None}
use Rattle.peer_lists.specs.Refusal.{or_else, candidate_refusal}
use Rattle.netgroup.specs.Group.{Numbering, by_old_prefixes, group_of}
use Rattle.netgroup.specs.Refusal.{limit_refusal, check_refusal}
use Rattle.netgroup.specs.Ended.{Ended}
use Rattle.refusals.specs.declared.Refusal.{Refusal}

abbrev pub group_unless : Option Refusal → Numbering → List ℕ → Result ℕ Refusal
group_unless None n c = Ok (group_of n c)
group_unless (Some k) n c = Err k

-- of_map: what is wrong with the map
abbrev pub group_call : Option Refusal → Numbering → List ℕ → Result ℕ Refusal
group_call of_map n c = group_unless (or_else (candidate_refusal c) of_map) n c

abbrev pub netgroup_of : Numbering → List ℕ → Result ℕ Refusal
netgroup_of n c = group_call (check_refusal n) n c

abbrev pub netgroup_unchecked : Numbering → List ℕ → Result ℕ Refusal
netgroup_unchecked n c = group_call (limit_refusal n) n c

-- "The old numbering stays callable" (document 02, CR 7)
abbrev pub prefix_group_call : List ℕ → Result ℕ Refusal
prefix_group_call c = group_call None by_old_prefixes c

-- a group that was handed back comes from a walk that ended at a RETURN or at a difference
abbrev pub Whole : Numbering → List ℕ → Result ℕ Refusal → Type 0
Whole n c (Ok g) = Ended n c
Whole n c (Err k) = Unit {0}
