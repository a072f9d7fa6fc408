-- The page calls (document 02, CR 4): the spread of a list of candidates on a page. "Refusals are the pick's": the list's 13, 12, 13, with no occupied
-- groups; then what is wrong with the map; then 14. The call of the paper checks its map; the other takes the map as it is.
-- Assumes nothing.
use Rattle.std.specs.Prelude.{ℕ, List, [], Option, Some, None}
use Rattle.peer_lists.specs.Candidates.{candidates_of}
use Rattle.peer_lists.specs.Refusal.{or_else, list_refusal}
use Rattle.netgroup.specs.Group.{Numbering, by_old_prefixes}
use Rattle.netgroup.specs.Refusal.{limit_refusal, check_refusal}
use Rattle.pick_passes.specs.Ranked.{groups_of}
use Rattle.asmap_records.specs.Output.{Making, Made, No}
use Rattle.page_lines.specs.Line.{page_of}
use Rattle.refusals.specs.declared.Refusal.{Refusal}

-- all: the candidates
abbrev pub page_unless : Option Refusal → Numbering → List (List ℕ) → Making
page_unless None n all = Made (page_of (groups_of n all))
page_unless (Some k) n all = No k

-- of_map: what is wrong with the map. What the output has to be long enough for is 25 bytes a group: 14, by `asmap_records/specs/Output: within`
abbrev pub page_call : Option Refusal → Numbering → List ℕ → Making
page_call of_map n bytes = page_unless (or_else (list_refusal bytes []) of_map) n (candidates_of bytes)

unfoldable pub spread_page : Numbering → List ℕ → Making
spread_page n bytes = page_call (check_refusal n) n bytes

unfoldable pub spread_unchecked : Numbering → List ℕ → Making
spread_unchecked n bytes = page_call (limit_refusal n) n bytes

-- "The old numbering stays callable" (document 02, CR 7)
unfoldable pub old_prefix_page : List ℕ → Making
old_prefix_page bytes = page_call None by_old_prefixes bytes
