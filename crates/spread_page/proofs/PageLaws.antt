-- What a page is made of: the groups found one by one, the list sorted, and the ways out of the calls.
-- Assumes nothing.
use mathlib.Core.Path.{◌≡◌, ◌∙◌, sym, ap, subst}
use mathlib.Core.List.{List, [], ◌∷◌, ◌++◌}
use Prim.Native.Nat.{ℕ, ◌+◌, ◌/◌, ◌≤◌, ◌<◌}
use native.Mathlib.Numerals.{add-one}
use native.Mathlib.Omega.{arith}
use lib.ListN.{length, take, get_or, set}
use lib.Seq.{take-suc, take-suc-set}
use Rattle.peer_lists.specs.Candidates.{candidates_of}
use Rattle.peer_lists.specs.Refusal.{list_refusal}
use Rattle.peer_lists.proofs.Lists.{length_candidates}
use Rattle.netgroup.specs.Group.{Numbering}
use Rattle.netgroup.specs.Refusal.{check_refusal}
use Rattle.netgroup.proofs.Walked.{ended}
use Rattle.pick_passes.specs.Ranked.{groups_of}
use Rattle.pick_passes.proofs.Lists.{length-groups}
use Rattle.asmap_records.specs.Output.{Making, Made, No, Hands}
use Rattle.group_shares.specs.models.Runs.{runs}
use Rattle.group_shares.specs.models.Sorted.{Arranged}
use Rattle.group_shares.proofs.RunLaws.{arranged-spread}
use Rattle.page_lines.specs.Line.{lines, page_of}
use Rattle.page_lines.proofs.TellLaws.{page_tells}
use Rattle.spread_page.specs.Page.{page_call}
use Rattle.spread_page.specs.Promise.{Told, Unaborted}
use Rattle.netgroup.proofs.PrefixLaws.{Bytes}
use Rattle.spread_page.proofs.FitLaws.{groups-below}
use Rattle.refusals.specs.declared.Refusal.{Refusal}
use Rattle.std.specs.Prelude.{Result, Ok, Err, Option, Some, None}

-- ---- the groups, one more

pub found-next : (gs groups : List ℕ) (i g : ℕ) → i < length gs → i < length groups → take i groups ≡ take i gs → g ≡ get_or gs i 0 → take (i + 1) (set groups i g) ≡ take (i + 1) gs
found-next gs groups i g h r e f =
    rw (add-one i)
    (take-suc-set groups i g r ∙ ap (λ (l : List ℕ). l ++ (g ∷ [])) e ∙ ap (λ (x : ℕ). take i gs ++ (x ∷ [])) f ∙ sym (take-suc gs i 0 h))

-- ---- the lines of a sorted list

-- gs: the groups; ys: the same, sorted
pub sorted_page : (gs ys : List ℕ) → Arranged gs ys → length ys ≡ length gs → lines (length ys) (runs ys) ≡ page_of gs
sorted_page gs ys a e = ap (λ (n : ℕ). lines n (runs ys)) e ∙ ap (lines (length gs)) (arranged-spread gs ys a)

-- what is handed back of bytes, of the same bytes
pub hands_same : {made other : Making} {o o' : List ℕ} {r : Result ℕ Refusal} → made ≡ other → Hands made o o' r → Hands other o o' r
hands_same {made} {other} {o} {o'} {r} e h = subst (λ (m : Making). Hands m o o' r) e h

-- ---- the ways out of a call

module _ (of_map : Option Refusal) (n : Numbering) (bytes : List ℕ) where
  pub list_refused : (k : Refusal) → list_refusal bytes [] ≡ Some k → page_call of_map n bytes ≡ No k
  list_refused k e = rw e

  pub map_refused : (k : Refusal) → list_refusal bytes [] ≡ None → of_map ≡ Some k → page_call of_map n bytes ≡ No k
  map_refused k e f = rw (e, f)

  pub page_made : list_refusal bytes [] ≡ None → of_map ≡ None → page_call of_map n bytes ≡ Made (page_of (groups_of n (candidates_of bytes)))
  page_made e f = rw (e, f)

-- ---- what is promised of either answer

pub told_either : (n : Numbering) (bytes : List ℕ) (r : Result ℕ Refusal) → length bytes / 20 ≤ 4096 → Bytes bytes → Told n bytes r
unfolding Told
told_either n bytes (Ok k) few b =
    let all = candidates_of bytes in
    page_tells (groups_of n all) (omega (arith, length-groups n all, length_candidates bytes)) (groups-below n bytes b)
told_either n bytes (Err k) few b = tt

pub unaborted_either : (n : Numbering) (bytes : List ℕ) (r : Result ℕ Refusal) → check_refusal n ≡ None → Unaborted n bytes r
unfolding Unaborted
unaborted_either n bytes (Ok k) h = λ i l. ended n (get_or (candidates_of bytes) i []) h
unaborted_either n bytes (Err k) h = tt
