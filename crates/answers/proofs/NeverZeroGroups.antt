-- No refusal of a group call, the occupied scan or a pick has the number 0; and which numbers these and a page refuse with.
-- Assumes nothing.
use Prim.Native.Nat.{ℕ, ◌+◌, ◌/◌, ◌%◌, min}
use mathlib.Core.Bool.{Bool, true, false, not, cond}
use mathlib.Core.Path.{◌≡◌}
use mathlib.Core.List.{List, [], ◌∷◌}
use Rattle.answer_outcome.specs.Outcome.{handed, Hands}
use lib.Dec.{eqb, ltb}
use lib.ListN.{length}
use Rattle.asmap_program.specs.Map.{limit}
use Rattle.asmap_check.specs.Check.{check_of, Reason}
use Rattle.candidate_bytes.specs.Candidate.{valid}
use Rattle.group_lists.specs.Groups.{has}
use Rattle.peer_lists.specs.Candidates.{candidates_of, all_valid}
use Rattle.peer_lists.specs.Refusal.{refuse_if, or_else, candidate_refusal, too_many, list_refusal}
use Rattle.group_lists.specs.Scan.{in_front, unless, scanned, scan_of}
use Rattle.netgroup.specs.Group.{Numbering, by_map, by_prefixes, by_old_prefixes}
use Rattle.netgroup.specs.Refusal.{verdict_refusal, limit_refusal, check_refusal}
use Rattle.netgroup.specs.Netgroup.{group_unless, group_call}
use Rattle.netgroup_pick.specs.PickRefusal.{room_refusal, pick_refusal}
use Rattle.netgroup_pick.specs.Pick.{pick_unless, pick_call}
use Rattle.asmap_records.specs.Output.{within, answer_of}
use Rattle.spread_page.specs.Page.{page_unless, page_call}
use Rattle.answer_maps.specs.Maps.{map_checked}
use Rattle.answer_bytes.specs.Bytes.{byte_count}
use Rattle.answer_groups.specs.Groups.{group_found, scan_made, pick_made}
use Rattle.answers.proofs.Handing.{refusal_some, Counted, Refuses, hands}
use Rattle.answers.proofs.NeverZeroMaps.{map-numbers, Makes, bytes-numbers}
use Rattle.asmap_program.specs.Verdict.{Verdict}
use Rattle.group_lists.specs.Scanned.{Hit, Missed}
use Rattle.refusals.specs.declared.Refusal.{Refusal}
use Rattle.std.specs.Prelude.{Result, Ok, Err, Option, Some, None}
use Rattle.refusals.specs.declared.Fault.TheVariants as fault
use Rattle.refusals.specs.Numbers.{refusal_number, of_map}
use Rattle.group_lists.specs.declared.Scan.{Scan}
use Rattle.netgroup_pick.specs.declared.Totals.{Totals}
use Rattle.refusals.specs.declared.Refusal.TheVariants as refusal

-- ---- none is 0

pub group_found_lem : (x : Result ℕ Refusal) → Counted (group_found x)
unfolding Counted group_found
group_found_lem (Ok g) = tt
group_found_lem (Err e) = refusal_some e

pub group_handed : {x y : Result ℕ Refusal} {r : ℕ} {lent left : List ℕ} → x ≡ y → r ∷ left ≡ handed (group_found x) lent → Hands (group_found y) r lent left
group_handed q e = hands group_found q group_found_lem e

pub scan_made_lem : (x : Result Scan Refusal) → Counted (scan_made x)
unfolding Counted scan_made
scan_made_lem (Ok scan) = tt
scan_made_lem (Err e) = refusal_some e

pub scan_handed : {x y : Result Scan Refusal} {r : ℕ} {lent left : List ℕ} → x ≡ y → r ∷ left ≡ handed (scan_made x) lent → Hands (scan_made y) r lent left
scan_handed q e = hands scan_made q scan_made_lem e

pub pick_made_lem : (x : Result Totals Refusal) → Counted (pick_made x)
unfolding Counted pick_made
pick_made_lem (Ok t) = tt
pick_made_lem (Err e) = refusal_some e

-- ---- which they are

-- P: what is shown of the number of a refusal
module _ (P : ℕ → Type 0) where
  -- a refusal that is none, or has such a number
  abbrev pub From : Option Refusal → Type 0
  From None = Unit {0}
  From (Some e) = P (refusal_number e)

  either : (a b : Option Refusal) → From a → From b → From (or_else a b)
  either None b h k = k
  either (Some n) b h k = h

  refusing : (b : Bool) (e : Refusal) → P (refusal_number e) → From (refuse_if b e)
  refusing true e h = h
  refusing false e h = tt

  by-verdict : (v : Verdict) → Refuses P (map_checked (of_map v)) → From (verdict_refusal v)
  unfolding Refuses map_checked
  by-verdict (Ok got) h = tt
  by-verdict (Err f) h = h

  -- a map that the call checks: the check's numbers; a map taken as it is: 1
  pub by_check : (n : Numbering) → P 1 → ((k : ℕ) → Reason k → P k) → From (check_refusal n)
  by_check (by_map m) one h = by-verdict (check_of m 128) (map-numbers P h m 128 one)
  by_check by_prefixes one h = tt
  by_check by_old_prefixes one h = tt

  pub by-limit : (n : Numbering) → P 1 → From (limit_refusal n)
  by-limit (by_map m) one = refusing (ltb limit (length m)) (refusal.Map fault.MapTooLong) one
  by-limit by_prefixes one = tt
  by-limit by_old_prefixes one = tt

  -- ---- groups

  unless_refused_lem : (why : Option Refusal) (n : Numbering) (c : List ℕ) → From why → Refuses P (group_found (group_unless why n c))
  unfolding Refuses group_found
  unless_refused_lem None n c h = tt
  unless_refused_lem (Some k) n c h = h

  -- of_map: what is wrong with the map. 13, then that
  pub group-numbers : (of_map : Option Refusal) (n : Numbering) (c : List ℕ) → P 13 → From of_map → Refuses P (group_found (group_call of_map n c))
  group-numbers of_map n c none h =
      unless_refused_lem (or_else (candidate_refusal c) of_map) n c (either (candidate_refusal c) of_map (refusing (not (valid c)) refusal.Candidate none) h)

  -- ---- the occupied scan: 12

  scanned-done : (g : ℕ) (gs : List ℕ) (b : Bool) → Refuses P (scan_made (cond b (Hit (in_front g gs) (in_front g gs + 1)) (Missed (length gs))))
  unfolding Refuses scan_made
  scanned-done g gs true = tt
  scanned-done g gs false = tt

  scan_unless : (why : Option Refusal) (g : ℕ) (gs : List ℕ) → From why → Refuses P (scan_made (unless why (scanned g gs)))
  unfolding Refuses scan_made
  scan_unless None g gs h = scanned-done g gs (has g gs)
  scan_unless (Some k) g gs h = h

  pub scan-numbers : (g : ℕ) (gs : List ℕ) → P 12 → Refuses P (scan_made (scan_of g gs))
  scan-numbers g gs many = scan_unless (too_many (length gs)) g gs (refusing (ltb 4096 (length gs)) refusal.TooMany many)

  -- ---- pick

  no_list : (a b c d : Bool) → P 12 → P 13 → From (or_else (refuse_if a refusal.Candidate) (or_else (refuse_if b refusal.TooMany) (or_else (refuse_if c refusal.TooMany) (refuse_if d refusal.Candidate))))
  no_list true b c d many none = none
  no_list false true c d many none = many
  no_list false false true d many none = many
  no_list false false false d many none = refusing d refusal.Candidate none

  listed : (bytes occupied : List ℕ) → P 12 → P 13 → From (list_refusal bytes occupied)
  listed bytes occupied many none =
      no_list (not (eqb (length bytes % 20) 0)) (ltb 4096 (length bytes / 20)) (ltb 4096 (length occupied)) (not (all_valid (candidates_of bytes))) many none

  no_room : (a b : Bool) → P 14 → From (or_else (refuse_if a refusal.OutputTooShort) (refuse_if b refusal.OutputTooShort))
  no_room true b short = short
  no_room false b short = refusing b refusal.OutputTooShort short

  module _ (bytes occupied : List ℕ) (max : ℕ) (picks groups : List ℕ) where
    made_unless : (why : Option Refusal) (n : Numbering) → From why → Refuses P (pick_made (pick_unless why n (candidates_of bytes) occupied max picks groups).answer)
    unfolding Refuses pick_made
    made_unless None n h = tt
    made_unless (Some k) n h = h

    roomy : P 14 → From (room_refusal (length bytes / 20) max picks groups)
    roomy short = no_room (ltb (length picks) (min max (length bytes / 20))) (ltb (length groups) (min max (length bytes / 20))) short

    -- 13, 12, 13, what is wrong with the map, 14
    pub pick-numbers : (of_map : Option Refusal) (n : Numbering) → P 12 → P 13 → P 14 → From of_map
        → Refuses P (pick_made (pick_call of_map n bytes occupied max picks groups).answer)
    pick-numbers of_map n many none short h =
        let room = room_refusal (length bytes / 20) max picks groups in
        made_unless (pick_refusal of_map bytes occupied max picks groups) n
        (either (list_refusal bytes occupied) (or_else of_map room) (listed bytes occupied many none) (either of_map room h (roomy short)))

  -- ---- the page

  page_makes : (why : Option Refusal) (n : Numbering) (all : List (List ℕ)) → From why → Makes P (page_unless why n all)
  page_makes None n all h = tt
  page_makes (Some k) n all h = h

  -- in a room of k bytes: 13, 12, 13, what is wrong with the map, 14
  pub page-numbers : (k : ℕ) (bytes : List ℕ) (of_map : Option Refusal) (n : Numbering) → P 12 → P 13 → P 14 → From of_map → Refuses P (byte_count (answer_of (within k (page_call of_map n bytes))))
  page-numbers k bytes of_map n many none short h =
      bytes-numbers P k (page_call of_map n bytes) short
      (page_makes (or_else (list_refusal bytes []) of_map) n (candidates_of bytes) (either (list_refusal bytes []) of_map (listed bytes [] many none) h))
