-- No refusal of check, walk or a call that writes bytes has the number 0; and which numbers check, unpack, pack, the listing and the comparison refuse
-- with.
-- Assumes nothing.
use Prim.Native.Nat.{ℕ, zero, suc, ◌+◌, ◌/◌}
use mathlib.Core.Bool.{Bool, true, false}
use mathlib.Core.Path.{◌≡◌}
use mathlib.Core.List.{List, ◌∷◌}
use Rattle.answer_outcome.specs.Outcome.{handed, Hands}
use lib.Dec.{ltb}
use lib.ListN.{length, drop}
use Rattle.asmap_program.specs.Map.{Map}
use Rattle.asmap_program.specs.Check.{check}
use Rattle.asmap_check.specs.Check.{check_of, Reason}
use Rattle.asmap_check.proofs.Reasons.{Judged, check-judged, map-judged}
use Rattle.asmap_walk_bits.specs.declared.Ending.{Ending}
use Rattle.asmap_records.specs.Output.{Making, Made, No, refuse, on, within, answer_of}
use Rattle.asmap_records.specs.Unpack.{unpack_as, unpack_of}
use Rattle.asmap_records.specs.Pack.{field_bits, record_bits, records_bits, pack_bits, pack_of}
use Rattle.asmap_list.specs.List.{list_as, list_of, bytes_of, needed_of}
use Rattle.prefix_changes.specs.Change.{Change}
use Rattle.asmap_changes.specs.Changes.{changes_of}
use Rattle.asmap_compare.specs.Compare.{Comparison, Told, Refuses as Named, compared_as, comparison, records_made, compare_of, first_made, needed_with}
use Rattle.answer_maps.specs.Maps.{map_checked, check_stopped, walk_made}
use Rattle.answer_bytes.specs.Bytes.{byte_count}
use Rattle.answers.proofs.Handing.{refusal_some, Counted, Refuses, hands}
use Rattle.asmap_program.specs.Verdict.{Accepted, Verdict}
use Rattle.asmap_program.specs.declared.Accepted as struct
use Rattle.asmap_check.specs.declared.Stop.{Stop}
use Rattle.std.specs.Prelude.{Result, Ok, Err}
use Rattle.refusals.specs.declared.Fault.{Fault}
use Rattle.refusals.specs.declared.Fault.TheVariants as fault
use Rattle.refusals.specs.declared.Refusal.{Refusal}
use Rattle.refusals.specs.declared.Refusal.TheVariants as refusal
use Rattle.refusals.specs.Numbers.{fault_number, refusal_number, of_map}

-- ---- none is 0

pub map_checked_lem : (x : Result struct.Accepted Refusal) → Counted (map_checked x)
unfolding Counted map_checked
map_checked_lem (Ok got) = tt
map_checked_lem (Err e) = refusal_some e

pub check_handed : {x y : Result struct.Accepted Refusal} {r : ℕ} {lent left : List ℕ} → x ≡ y → r ∷ left ≡ handed (map_checked x) lent → Hands (map_checked y) r lent left
check_handed q e = hands map_checked q map_checked_lem e

pub check_stopped_lem : (x : Result Stop Refusal) → Counted (check_stopped x)
unfolding Counted check_stopped
check_stopped_lem (Ok stop) = tt
check_stopped_lem (Err e) = refusal_some e

pub stop_handed : {x y : Result Stop Refusal} {r : ℕ} {lent left : List ℕ} → x ≡ y → r ∷ left ≡ handed (check_stopped x) lent → Hands (check_stopped y) r lent left
stop_handed q e = hands check_stopped q check_stopped_lem e

pub walk_made_lem : (x : Result Ending Refusal) → Counted (walk_made x)
unfolding Counted walk_made
walk_made_lem (Ok ending) = tt
walk_made_lem (Err e) = refusal_some e

pub walk_handed : {x y : Result Ending Refusal} {r : ℕ} {lent left : List ℕ} → x ≡ y → r ∷ left ≡ handed (walk_made x) lent → Hands (walk_made y) r lent left
walk_handed q e = hands walk_made q walk_made_lem e

pub byte_count_lem : (x : Result ℕ Refusal) → Counted (byte_count x)
unfolding Counted byte_count
byte_count_lem (Ok n) = tt
byte_count_lem (Err e) = refusal_some e

pub count_handed : {x y : Result ℕ Refusal} {r : ℕ} {lent left : List ℕ} → x ≡ y → r ∷ left ≡ handed (byte_count x) lent → Hands (byte_count y) r lent left
count_handed q e = hands byte_count q byte_count_lem e

-- ---- the check. P: what is shown of its number

module _ (P : ℕ → Type 0) (reason : (n : ℕ) → Reason n → P n) where
  judged : (v : Verdict) → Judged P v → Refuses P (map_checked (of_map v))
  unfolding Refuses map_checked
  judged (Ok got) h = tt
  judged (Err n) h = h

  -- a map within the limit
  pub check-numbers : (m : Map) (w : ℕ) → Refuses P (map_checked (of_map (check m w)))
  check-numbers m w = judged (check m w) (check-judged P reason m w)

  -- any map: 1 too
  pub map-numbers : (m : List ℕ) (w : ℕ) → P 1 → Refuses P (map_checked (of_map (check_of m w)))
  map-numbers m w one = judged (check_of m w) (map-judged P reason m w one)

-- ---- unpack and pack

-- P: what is shown of the number of a refusal
module _ (P : ℕ → Type 0) where
  abbrev pub Makes : Making → Type 0
  Makes (Made l) = Unit {0}
  Makes (No e) = P (refusal_number e)

  pub refused : (b : Bool) (e : Refusal) (r : Making) → P (refusal_number e) → Makes r → Makes (refuse b e r)
  unfolding refuse
  refused true e r h k = h
  refused false e r h k = k

  goes_on : (k : List ℕ → Making) → ((l : List ℕ) → Makes (k l)) → (r : Making) → Makes r → Makes (on k r)
  goes_on k h (Made l) v = h l
  goes_on k h (No n) v = v

  numbered_answer : (r : Making) → Makes r → Refuses P (byte_count (answer_of r))
  unfolding Refuses byte_count
  numbered_answer (Made l) h = tt
  numbered_answer (No n) h = h

  -- in a room of k bytes
  pub bytes-numbers : (k : ℕ) (r : Making) → P 14 → Makes r → Refuses P (byte_count (answer_of (within k r)))
  bytes-numbers k r short h = numbered_answer (within k r) (goes_on _ (λ l. refused (ltb k (length l)) refusal.OutputTooShort _ short tt) r h)

  -- made by the check's verdict: refused as it says
  by-verdict : (made : Verdict → Making) → ((c d : ℕ) → Makes (made (Accepted c d))) → ((f : Fault) → P (fault_number f) → Makes (made (Err f)))
      → (v : Verdict) → Refuses P (map_checked (of_map v)) → Makes (made v)
  unfolding Refuses map_checked
  by-verdict made a b (Ok got) h = a got.count got.depth
  by-verdict made a b (Err f) h = b f h

  numbered-length : (r : Making) → Makes r → Refuses P (byte_count (bytes_of r))
  unfolding Refuses byte_count
  numbered-length (Made l) h = tt
  numbered-length (No n) h = h

  -- the check's; where it is written, then 14
  pub list-numbers : (k : ℕ) (m : List ℕ) (w : ℕ) → P 14 → Refuses P (map_checked (of_map (check_of m w))) → Refuses P (byte_count (answer_of (within k (list_of m w))))
  unfolding list_of
  list-numbers k m w short h = bytes-numbers k (list_of m w) short (by-verdict (list_as m) (λ c d. tt) (λ n p. p) (check_of m w) h)

  pub length-numbers : (m : List ℕ) (w : ℕ) → Refuses P (map_checked (of_map (check_of m w))) → Refuses P (byte_count (needed_of m w))
  unfolding list_of
  length-numbers m w h = numbered-length (list_of m w) (by-verdict (list_as m) (λ c d. tt) (λ n p. p) (check_of m w) h)

  -- two maps: what is shown of the old one's number, and of the new one's with 100 more
  named : (made : Comparison → Making) → ((cs : List Change) → Makes (made (Told cs))) → ((e : Refusal) → P (refusal_number e) → Makes (made (Named e)))
      → (cs : List Change) (v u : Verdict) → Refuses P (map_checked (of_map v)) → Refuses (λ n. P (100 + n)) (map_checked (of_map u)) → Makes (made (compared_as cs v u))
  unfolding Refuses map_checked
  named made a b cs (Err f) u h k = b (refusal.Map f) h
  named made a b cs (Ok got) (Err f) h k = b (refusal.NewMap f) k
  named made a b cs (Ok got) (Ok got') h k = a cs

  numbered-need : (c : Comparison) (r : Making) → Makes r → Refuses P (byte_count (bytes_of (records_made c))) → Refuses P (byte_count (needed_with c r))
  unfolding Refuses byte_count
  numbered-need c (Made l) h k = k
  numbered-need c (No n) h k = h

  module _ (old new : List ℕ) (w : ℕ) (h : Refuses P (map_checked (of_map (check_of old w)))) (k : Refuses (λ n. P (100 + n)) (map_checked (of_map (check_of new w)))) where
    records_make_of : Makes (compare_of old new w)
    unfolding comparison
    records_make_of = named records_made (λ cs. tt) (λ n p. p) (changes_of old new w) (check_of old w) (check_of new w) h k

    first_makes : Makes (first_made (comparison old new w))
    unfolding comparison
    first_makes = named first_made (λ cs. tt) (λ n p. p) (changes_of old new w) (check_of old w) (check_of new w) h k

    -- the old map's, the new map's with 100 more, then 14
    pub compare-numbers : (room : ℕ) → P 14 → Refuses P (byte_count (answer_of (within room (compare_of old new w))))
    compare-numbers room short = bytes-numbers room (compare_of old new w) short records_make_of

    pub find-numbers : (room : ℕ) → P 14 → Refuses P (byte_count (needed_with (comparison old new w) (within room (first_made (comparison old new w)))))
    find-numbers room short =
        numbered-need (comparison old new w) (within room (first_made (comparison old new w)))
        (goes_on _ (λ l. refused (ltb room (length l)) refusal.OutputTooShort _ short tt) (first_made (comparison old new w)) first_makes)
        (numbered-length (compare_of old new w) records_make_of)

  -- the check's, then 14
  pub unpack-numbers : (k : ℕ) (m : List ℕ) (w : ℕ) → P 14 → Refuses P (map_checked (of_map (check_of m w))) → Refuses P (byte_count (answer_of (within k (unpack_of m w))))
  unfolding unpack_of
  unpack-numbers k m w short h = bytes-numbers k (unpack_of m w) short (by-verdict (unpack_as m w) (λ c d. tt) (λ n p. p) (check_of m w) h)

  module _ (one : P 1) (range : P 15) (wrong : P 16) where
    record_makes : (l : List ℕ) (at : ℕ) → Makes (record_bits l at)
    unfolding field_bits
    record_makes l at = refused _ refusal.OutOfRange _ range (refused _ refusal.Record _ wrong (refused _ (refusal.Map fault.MapTooLong) _ one tt))

    records_make : (n : ℕ) (l : List ℕ) (at : ℕ) → Makes (records_bits n l at)
    records_make zero l at = tt
    records_make (suc n) l at =
        goes_on _ (λ bs. goes_on _ (λ cs. tt) (records_bits n (drop 16 l) (at + length bs)) (records_make n (drop 16 l) (at + length bs))) (record_bits l at) (record_makes l at)

    -- 16, 15, 1, then 14
    pub pack-numbers : (k : ℕ) (rs : List ℕ) → P 14 → Refuses P (byte_count (answer_of (within k (pack_of rs))))
    unfolding pack_of pack_bits
    pack-numbers k rs short =
        bytes-numbers k (pack_of rs) short (goes_on _ (λ bs. tt) (pack_bits rs) (refused _ refusal.Record _ wrong (records_make (length rs / 16) rs 0)))
