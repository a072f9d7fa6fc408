-- What a page promises besides its bytes, of a list of candidates whatever their number: of a call that was not refused.
-- Assumes nothing.
use Rattle.std.specs.Prelude.{ℕ, ◌<◌, List, [], length, get_or, Result, Ok, Err}
use Rattle.peer_lists.specs.Candidates.{candidates_of}
use Rattle.netgroup.specs.Group.{Numbering}
use Rattle.netgroup.specs.Ended.{Ended}
use Rattle.pick_passes.specs.Ranked.{groups_of}
use Rattle.group_shares.specs.Spread.{spread}
use Rattle.page_lines.specs.Told.{AllTell}
use Rattle.refusals.specs.declared.Refusal.{Refusal}

-- each line tells its group, its candidates and its per cent to whoever reads its columns: none was too narrow
unfoldable pub Told : Numbering → List ℕ → Result ℕ Refusal → Type 0
Told n bytes (Ok k) = AllTell (length (groups_of n (candidates_of bytes))) (spread (groups_of n (candidates_of bytes)))
Told n bytes (Err k) = Unit {0}

-- each walk of a candidate ended at a RETURN or at a difference, and a group 0 is a difference with no DEFAULT read
unfoldable pub Unaborted : Numbering → List ℕ → Result ℕ Refusal → Type 0
Unaborted n bytes (Ok k) = (i : ℕ) → i < length (candidates_of bytes) → Ended n (get_or (candidates_of bytes) i [])
Unaborted n bytes (Err k) = Unit {0}
