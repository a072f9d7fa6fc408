-- Why a candidate or a list is refused (document 01, What a call hands back): each reason with its number, and which of two comes
-- first.
-- Assumes nothing.
use Rattle.std.specs.Prelude.{ℕ, ◌/◌, ◌%◌, Bool, true, false, not, List, eqb, ltb, length, Option, Some, None}
use Rattle.candidate_bytes.specs.Candidate.{valid}
use Rattle.peer_lists.specs.Candidates.{candidates_of, all_valid}
use Rattle.refusals.specs.declared.Refusal.{Refusal}
use Rattle.refusals.specs.declared.Refusal.TheVariants as refusal

abbrev pub refuse_if : Bool → Refusal → Option Refusal
refuse_if true n = Some n
refuse_if false n = None

-- the earlier reason, and the later where there is no earlier
abbrev pub or_else : Option Refusal → Option Refusal → Option Refusal
or_else None later = later
or_else (Some n) later = Some n

-- 13: what is given as a candidate is none
abbrev pub candidate_refusal : List ℕ → Option Refusal
candidate_refusal c = refuse_if (not (valid c)) refusal.Candidate

-- 12: a list of more than 4,096 candidates, or groups
abbrev pub too_many : ℕ → Option Refusal
too_many count = refuse_if (ltb 4096 count) refusal.TooMany

-- the candidates' bytes and the occupied groups: 13 for bytes that do not make whole candidates, 12 for either list, 13 for a candidate
-- that is none
abbrev pub list_refusal : List ℕ → List ℕ → Option Refusal
list_refusal bytes occupied =
    or_else (refuse_if (not (eqb (length bytes % 20) 0)) refusal.Candidate)
    (or_else (too_many (length bytes / 20))
    (or_else (too_many (length occupied)) (refuse_if (not (all_valid (candidates_of bytes))) refusal.Candidate)))
