-- Each call at a width: at 32 and at 128 its namesake's answers over so many bits (`…-over`), from which follows all that is said of those.
-- Assumes nothing.
use Prim.Native.Nat.{ℕ}
use mathlib.Core.Path.{◌≡◌, refl}
use mathlib.Core.Logic.{◌⊎◌}
use mathlib.Core.List.{List, [], ◌∷◌}
use native.Mathlib.Omega.{arith}
use lib.ListN.{take}
use Rattle.asmap_program.proofs.Widths.{a_width, narrow, whole-bytes}
use Rattle.asmap_check.specs.Check.{check_of, check_at, stopped_of, stopped_at}
use Rattle.asmap_check.proofs.Limit.{accepted_at_more}
use Rattle.asmap_walk.specs.Interpret.{interpret_over, interpret_at}
use Rattle.asmap_records.specs.Output.{Making, No}
use Rattle.asmap_records.specs.Unpack.{unpack_of, unpack_at}
use Rattle.asmap_records.specs.Pack.{pack_of}
use Rattle.byte_numbers.proofs.NumberLaws.{AllBytes}
use Rattle.asmap_list.specs.List.{list_of, list_at, bytes_of, needed_of, needed_at}
use Rattle.asmap_list.specs.Promise.{Covers}
use Rattle.asmap_compare.specs.Compare.{Refuses, comparison, comparison_at, records_made, compare_of, compare_at}
use Rattle.asmap_compare.specs.Promise.{Compares}
use Rattle.answer_outcome.specs.Outcome.{Hands}
use Rattle.answer_maps.specs.Maps.{map_checked, check_stopped, walk_made}
use Rattle.answer_bytes.specs.Bytes.{byte_count, Writes, Finds}
use Rattle.answers.specs.Promise.{Demand3At, CoreVerdictAt, CoreNumberAt}
use Rattle.demand_statements.specs.AnyInput.{AtWidth, AlsoAt128, Checks, Stops, Walks, Unpacks, Lists, Needs, Changes, FindsFirst}
use Rattle.demand_statements.specs.Walked.{InRecords}
use Rattle.demand_statements.specs.Listed.{ListedWalk, ListedWithRoom}
use Rattle.demand_statements.specs.Same.{CoreAccepts, Again, UnpackedThenPacked}
use Rattle.demand_statements.specs.Agreed.{AgreedWalks}
use Rattle.demand_statements.proofs.AnswerLaws.{answered, handed_out}
use Rattle.demand_statements.proofs.WidthLaws.{ByWidth, said_at, answered_at, hands_by, writes_by, finds_by}
use Rattle.demand_statements.proofs.CoreAnswers.{core_accepts}
use Rattle.demand_statements.proofs.MapAnswers.{checks, stops, walks, unpacks}
use Rattle.demand_statements.proofs.WalkLaws.{Concluded, unwalked, walked_on}
use Rattle.demand_statements.proofs.RecordAnswers.{walk_listed}
use Rattle.demand_statements.proofs.TripLaws.{not_unpacked, packed_again, unpacked_again}
use Rattle.demand_statements.proofs.ListAnswers.{lists, needs, unlisted, with_room, walk_in_list_lem}
use Rattle.demand_statements.proofs.CompareAnswers.{changed, found, agreed}
use Rattle.std.specs.Prelude.{Err}
use Rattle.refusals.specs.Numbers.{of_map}

-- the only lent number
same_head : {a b : ℕ} → a ∷ [] ≡ b ∷ [] → a ≡ b
same_head e = cc

both : {A : Type 0} {a b : ℕ} → A × (a ∷ [] ≡ b ∷ []) → A × (a ≡ b)
both p = (p.0, same_head p.1)

-- ---- what each call is over so many bits

module _ (m : List ℕ) (w : ℕ) {r : ℕ} {lent left : List ℕ} where
  pub check_over_lem : Hands (map_checked (check_at m w)) r lent left → ByWidth w r (Hands (map_checked (of_map (check_of m w))) r lent left) (left ≡ lent)
  unfolding map_checked
  check_over_lem h = hands_by map_checked Err (of_map (check_of m w)) w refl h

  stop_over_lem : Hands (check_stopped (stopped_at m w)) r lent left → ByWidth w r (Hands (check_stopped (of_map (stopped_of m w))) r lent left) (left ≡ lent)
  unfolding check_stopped
  stop_over_lem h = hands_by check_stopped Err (of_map (stopped_of m w)) w refl h

  needs_over : Hands (byte_count (needed_at m w)) r lent left → ByWidth w r (Hands (byte_count (needed_of m w)) r lent left) (left ≡ lent)
  unfolding byte_count
  needs_over h = hands_by (λ (x : Making). byte_count (bytes_of x)) No (list_of m w) w refl h

  unpack_over_lem : {o o' : List ℕ} → Writes (unpack_at m w) o o' r lent left → ByWidth w r (Writes (unpack_of m w) o o' r lent left) ((o' ≡ o) × (left ≡ lent))
  unpack_over_lem h = writes_by (λ (x : Making). x) No (unpack_of m w) w refl h

  list_over : {o o' : List ℕ} → Writes (list_at m w) o o' r lent left → ByWidth w r (Writes (list_of m w) o o' r lent left) ((o' ≡ o) × (left ≡ lent))
  list_over h = writes_by (λ (x : Making). x) No (list_of m w) w refl h

  walk_over_lem : (a : List ℕ) → Hands (walk_made (interpret_at m a w)) r lent left → ByWidth w r (Hands (walk_made (interpret_over m a w)) r lent left) (left ≡ lent)
  unfolding walk_made
  walk_over_lem a h = hands_by walk_made Err (interpret_over m a w) w refl h

  compare_over_lem : (n : List ℕ) {o o' : List ℕ} → Writes (compare_at m n w) o o' r lent left → ByWidth w r (Writes (compare_of m n w) o o' r lent left) ((o' ≡ o) × (left ≡ lent))
  compare_over_lem n h = writes_by records_made Refuses (comparison m n w) w refl h

-- ---- any input

module _ (m : List ℕ) (w : ℕ) {r : ℕ} where
  pub checks_at : {entry exit : List ℕ} → Hands (map_checked (check_at m w)) r entry exit → AtWidth w r (Checks m w r entry exit) (exit ≡ entry)
  checks_at h = said_at w r (λ t k. checks m w k) (λ e. e) (check_over_lem m w h)

  pub stops_at : {reason place : ℕ} {entry : List ℕ} → Hands (check_stopped (stopped_at m w)) r entry (reason ∷ place ∷ [])
      → AtWidth w r (Stops m w r entry reason place) (reason ∷ place ∷ [] ≡ entry)
  stops_at h = said_at w r (λ t k. stops m w k) (λ e. e) (stop_over_lem m w h)

  pub walks_at : (a : List ℕ) {kind number count bits : ℕ} {entry : List ℕ} → Hands (walk_made (interpret_at m a w)) r entry (kind ∷ number ∷ count ∷ bits ∷ [])
      → AtWidth w r (Walks m a w r entry kind number count bits) (kind ∷ number ∷ count ∷ bits ∷ [] ≡ entry)
  walks_at a h = said_at w r (λ t k. walks m a w (whole-bytes w t) k) (λ e. e) (walk_over_lem m w a h)

  pub needs_at : {entry exit : List ℕ} → Hands (byte_count (needed_at m w)) r entry exit → AtWidth w r (Needs m w r entry exit) (exit ≡ entry)
  needs_at h = said_at w r (λ t k. needs m w k) (λ e. e) (needs_over m w h)

  module _ (o o' : List ℕ) {written written' : ℕ} where
    pub unpacks_at : Writes (unpack_at m w) o o' r (written ∷ []) (written' ∷ []) → AtWidth w r (Unpacks m w o o' r written written') ((o' ≡ o) × (written' ≡ written))
    unpacks_at h = said_at w r (λ t k. unpacks m w o o' k) both (unpack_over_lem m w h)

    pub lists_at : Writes (list_at m w) o o' r (written ∷ []) (written' ∷ []) → AtWidth w r (Lists m w o o' r written written') ((o' ≡ o) × (written' ≡ written))
    lists_at h = said_at w r (λ t k. lists m w o o' k) both (list_over m w h)

    pub changed_at : (n : List ℕ) → Writes (compare_at m n w) o o' r (written ∷ []) (written' ∷ [])
        → AtWidth w r (Changes m n w o o' r written written') ((o' ≡ o) × (written' ≡ written))
    changed_at n h = said_at w r (λ t k. changed m n w o o' k) both (compare_over_lem m w n h)

    pub found_at : (n : List ℕ) → Finds (comparison_at m n w) o o' r (written ∷ []) (written' ∷ [])
        → AtWidth w r (FindsFirst m n w o o' r written written') ((o' ≡ o) × (written' ≡ written))
    found_at n h = said_at w r (λ t k. found m n w o o' k) both (finds_by (comparison m n w) w h)

-- ---- one map at both widths

-- the check at 32 refused the map
pub not_at_32 : (m : List ℕ) {r : ℕ} {lent left exit : List ℕ} → Hands (map_checked (check_at m 32)) r lent left → (r ≡ 0 → ⊥) → AlsoAt128 m r exit
not_at_32 m h n c d e = absurd (n (answered (check_of m 32) e ((check_over_lem m 32 h).over refl)))

-- r is the answer of the check at 128
pub also_at_128 : (m : List ℕ) {r : ℕ} {lent left : List ℕ} → Hands (map_checked (of_map (check_of m 128))) r lent left → AlsoAt128 m r left
also_at_128 m h c d e = handed_out (check_of m 128) (accepted_at_more m 32 128 c d (omega arith) e) h

-- ---- demands 2 and 3

abbrev Either : ℕ → Type 0
Either w = (w ≡ 32) ⊎ (w ≡ 128)

pub core_accepts_at : (m : List ℕ) (w r : ℕ) → CoreVerdictAt m w r → Either w → CoreAccepts m w r
core_accepts_at m w r e h = core_accepts m w r (e (a_width w h))

module _ (m a : List ℕ) (w : ℕ) {r kind number count bits : ℕ} where
  -- the check refused, and there was no walk
  pub unwalked_at : {lent left : List ℕ} → Hands (map_checked (check_at m w)) r lent left → (r ≡ 0 → ⊥) → Either w → Concluded m a w r kind number count bits
  unwalked_at h n e = let t = a_width w e in unwalked m a w (whole-bytes w t) ((check_over_lem m w h).over t) n

  -- the check answered q, 0, and r is the walk's answer
  pub walked_on_at : {q c d : ℕ} {lent lent' left : List ℕ} → Hands (map_checked (check_at m w)) q lent (c ∷ d ∷ []) → q ≡ 0
      → Hands (walk_made (interpret_at m a w)) r lent' left → Demand3At m a w r kind number count bits → CoreNumberAt m a w number → Either w
      → Concluded m a w r kind number count bits
  walked_on_at h z k p n e =
      let t = a_width w e in
      walked_on m a w (whole-bytes w t) ((check_over_lem m w h).over t) z ((walk_over_lem m w a k).over t) (p t) (n t)

  -- unpack answered q, 0, and wrote n bytes; r is the walk's answer
  pub walk_listed_at : {o o' lent lent' left : List ℕ} {q n : ℕ} → Writes (unpack_at m w) o o' q lent (n ∷ []) → q ≡ 0
      → Hands (walk_made (interpret_at m a w)) r lent' left → Demand3At m a w r kind number count bits → r ≡ 0 → InRecords m a w o' n
  walk_listed_at x z k p y =
      let b = unpack_over_lem m w x in
      let t = answered_at w _ b z in
      walk_listed m a w (b.over t) z ((walk_over_lem m w a k).over t) (p t) y

  -- the listing answered q, 0, and wrote
  pub walk_in_list_at : (o o' : List ℕ) {q written : ℕ} {lent lent' left : List ℕ} → AllBytes a → Writes (list_at m w) o o' q lent (written ∷ []) → Covers m w → q ≡ 0
      → Hands (walk_made (interpret_at m a w)) r lent' left → Demand3At m a w r kind number count bits → r ≡ 0 → ListedWalk w a o' written number
  walk_in_list_at o o' bytes x covers z k p y =
      let b = list_over m w x in
      let t = answered_at w _ b z in
      walk_in_list_lem m a w (narrow w t) o o' bytes (b.over t) covers z ((walk_over_lem m w a k).over t) (p t) y

-- ---- unpack and pack

module _ (m : List ℕ) (w : ℕ) {records records' bytes bytes' : List ℕ} {r written : ℕ} where
  pub not-unpacked_at : {lent left : List ℕ} → Writes (unpack_at m w) records records' r lent left → (r ≡ 0 → ⊥) → Either w → UnpackedThenPacked m w records bytes bytes' r written
  not-unpacked_at x n e = not_unpacked m w ((unpack_over_lem m w x).over (a_width w e)) n

  pub packed_again_at : AllBytes m → {q n : ℕ} {lent lent' : List ℕ} → Writes (unpack_at m w) records records' q lent (n ∷ []) → q ≡ 0
      → Writes (pack_of (take n records')) bytes bytes' r lent' (written ∷ []) → Either w → UnpackedThenPacked m w records bytes bytes' r written
  packed_again_at all x z p e = packed_again m w all ((unpack_over_lem m w x).over (a_width w e)) z p

pub unpacked_again_at : (records : List ℕ) (w : ℕ) {bytes bytes' again again' : List ℕ} {q n r written : ℕ} {lent lent' : List ℕ} → AllBytes records
    → Writes (pack_of records) bytes bytes' q lent (n ∷ []) → q ≡ 0
    → Writes (unpack_at (take n bytes') w) again again' r lent' (written ∷ []) → r ≡ 0 → Again records again' written
unpacked_again_at records w {bytes' = bytes'} {n = n} all p z x y =
    let b = unpack_over_lem (take n bytes') w x in
    unpacked_again records w all p z (b.over (answered_at w _ b y)) y

-- ---- room, and two maps compared

module _ (m : List ℕ) (w : ℕ) (o : List ℕ) {r needed written : ℕ} where
  pub unlisted_at : {entry exit : List ℕ} → Hands (byte_count (needed_at m w)) r entry exit → (r ≡ 0 → ⊥) → Either w → ListedWithRoom m w o r needed written
  unlisted_at h n e = unlisted m w o ((needs_over m w h).over (a_width w e)) n

  pub with_room_at : (o' : List ℕ) {q : ℕ} {entry lent : List ℕ} → Hands (byte_count (needed_at m w)) q entry (needed ∷ [])
      → Writes (list_at m w) o o' r lent (written ∷ []) → Either w → ListedWithRoom m w o r needed written
  with_room_at o' h x e = let t = a_width w e in with_room m w o o' ((needs_over m w h).over t) ((list_over m w x).over t)

pub agreed_at : (m n a : List ℕ) (w : ℕ) (o o' : List ℕ) {q r r' bytes kind x count bits kind' x' count' bits' : ℕ} {lent lent₁ lent₂ left₁ left₂ : List ℕ}
    → Finds (comparison_at m n w) o o' q lent (bytes ∷ []) → Compares m n w → q ≡ 0
    → Hands (walk_made (interpret_at m a w)) r lent₁ left₁ → Demand3At m a w r kind x count bits → r ≡ 0
    → Hands (walk_made (interpret_at n a w)) r' lent₂ left₂ → Demand3At n a w r' kind' x' count' bits' → AgreedWalks r' bytes x x'
agreed_at m n a w o o' f compares z h d y h' d' =
    let b = finds_by (comparison m n w) w f in
    let t = answered_at w _ b z in
    agreed m n a w o o' (b.over t) compares z ((walk_over_lem m w a h).over t) (d t) y ((walk_over_lem n w a h').over t) (d' t)
