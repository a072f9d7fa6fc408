-- What the crates below promise of their answers, carried over to the numbers that the calls hand out: demand 3 for walk and pick,
-- what Core answers, and how each walk behind a group ends.
-- Assumes nothing.
use Prim.Native.Nat.{ℕ, ◌≤◌}
use mathlib.Core.Path.{◌≡◌, ◌∙◌, sym, ap, subst}
use mathlib.Core.Logic.{◌⊎◌, inl, inr}
use mathlib.Core.List.{List, [], ◌∷◌}
use native.Mathlib.Omega.{arith}
use lib.Dec.{eqb}
use lib.ListN.{length}
use borrow.Author.Tests.{eq-eqb, ne_eqb}
use Rattle.asmap_program.specs.declared.Kind.{Kind}
use Rattle.asmap_program.specs.Map.{limit, address_bit}
use Rattle.asmap_program.specs.Core.{Read, Number, core_check, core_interpret}
use Rattle.asmap_program.specs.Demand.{NoDefault, Answers}
use Rattle.asmap_codes.specs.Core.{CoreReads, file_of}
use Rattle.asmap_check.specs.Check.{LikeCore, LikeCoreAt}
use Rattle.asmap_walk_bits.specs.declared.Ending.{Ending}
use Rattle.asmap_walk_bits.specs.Walk.{walk_of, summary}
use Rattle.asmap_walk.specs.Promise as walk
use Rattle.netgroup_pick.specs.Pick.{Handed}
use Rattle.netgroup_pick.specs.Pick as below
use Rattle.answer_outcome.specs.Outcome.{handed, IsDone, Hands}
use Rattle.answer_maps.specs.Maps.{map_checked, kind_number, end_numbers, walk_made}
use Rattle.asmap_records.specs.Output.{Making}
use Rattle.asmap_records.specs.Output as output
use Rattle.asmap_compare.specs.Compare.{Comparison}
use Rattle.asmap_compare.specs.Compare as compare
use Rattle.answer_bytes.specs.Bytes.{byte_count, Writes, Finds}
use Rattle.answer_codes.specs.Codes.{code_read}
use Rattle.answer_groups.specs.Groups.{group_found, totals_of, pick_made, Picks}
use Rattle.answers.specs.Promise.{Finished, Demand3, Demand3At, CoreVerdict, CoreVerdictAt, CoreNumber, CoreNumberAt, CoreCode}
use Rattle.answers.proofs.Handing.{fault_some, refusal_some, hands}
use Rattle.answers.proofs.NeverZeroMaps.{count_handed}
use Rattle.answers.proofs.NeverZeroGroups.{pick_made_lem}
use Rattle.asmap_program.specs.declared.Accepted as struct
use Rattle.asmap_program.specs.Verdict.{Verdict}
use Rattle.asmap_codes.specs.Reading.{Code, Found}
use Rattle.netgroup_pick.specs.declared.Totals.{Totals}
use Rattle.refusals.specs.declared.Fault.{Fault}
use Rattle.refusals.specs.declared.Refusal.{Refusal}
use Rattle.refusals.specs.declared.Refusal.TheVariants as refusal
use Rattle.refusals.specs.Numbers.{fault_number, refusal_number, of_map}
use Rattle.std.specs.Prelude.{Result, Ok, Err, MatchResult, IsErrAnd}

-- ---- the walk

-- an end at a RETURN or at a difference has the number 1 or 2
numbered : (k : Kind) (n : ℕ) → n ≡ kind_number k → Answers k → (n ≡ 1) ⊎ (n ≡ 2)
numbered k n e (inl h) = inl (e ∙ ap kind_number h)
numbered k n e (inr h) = inr (e ∙ ap kind_number h)

-- w: the address bits; x: what the walk below answered
module _ (m a : List ℕ) (w : ℕ) (x : Result Ending Refusal) (r kind number count bits : ℕ) (lent : List ℕ) (out : r ∷ kind ∷ number ∷ count ∷ bits ∷ [] ≡ handed (walk_made x) lent) where
  finished : walk.Kept m a w (summary (walk_of m a w)) → r ∷ kind ∷ number ∷ count ∷ bits ∷ [] ≡ 0 ∷ end_numbers (summary (walk_of m a w)) → Finished m a w r kind number count bits
  finished k e =
      let f = summary (walk_of m a w) in
      let ek : kind ≡ kind_number f.kind = cc in
      let en : f.number ≡ number = cc in
      let ec : count ≡ f.count = cc in
      let eb : bits ≡ f.bits = cc in
      let zero : number ≡ 0 → (kind ≡ 2) × NoDefault (walk_of m a w).read =
      λ z. let d = k.zero (en ∙ z) in (ek ∙ ap kind_number d.0, d.1) in
      record { done = cc; exact = cc; ended = numbered f.kind kind ek k.ended; zero = zero; bounded = omega (arith, k.bounded); most = omega (arith, k.most); kept = k }

  walk_kept : (f : Ending) → x ≡ Ok f → walk.Kept m a w f → Finished m a w r kind number count bits
  unfolding handed walk_made
  walk_kept f q k = let h : x ≡ Ok (summary (walk_of m a w)) = q ∙ ap Ok k.exact in finished (subst (walk.Kept m a w) k.exact k) (rw h at out)

  -- the number is the one that Core gives
  walk_core : (f : Ending) → x ≡ Ok f → core_interpret (address_bit a) w (file_of m) ≡ Number f.number → core_interpret (address_bit a) w (file_of m) ≡ Number number
  unfolding handed walk_made
  walk_core f q e =
      let h : r ∷ kind ∷ number ∷ count ∷ bits ∷ [] ≡ 0 ∷ end_numbers f = rw q at out in
      let n : f.number ≡ number = cc in
      e ∙ ap Number n

  -- at a width
  pub walk_finished_at : walk.Demand3At m a w x → Demand3At m a w r kind number count bits
  walk_finished_at p t c d h l = let k = p t c d h l in walk_kept k.0 k.1 k.2

  pub core-number_at : walk.CoreNumberAt m a w x → CoreNumberAt m a w number
  core-number_at p t c d h l = let k = p t c d h l in walk_core k.0 k.1 k.2

pub walk_finished : (m a : List ℕ) (x : Result Ending Refusal) (r kind number count bits : ℕ) (lent : List ℕ) → walk.Demand3 m a x
    → r ∷ kind ∷ number ∷ count ∷ bits ∷ [] ≡ handed (walk_made x) lent → Demand3 m a r kind number count bits
walk_finished m a x r kind number count bits lent p e c d h l =
    let t = p c d h l in
    let f = walk_kept m a 128 x r kind number count bits lent e t.0 t.1 t.2.0 in
    (f, f.most)

pub core-number : (m a : List ℕ) (x : Result Ending Refusal) (r kind number count bits : ℕ) (lent : List ℕ) → walk.CoreNumber m a x
    → r ∷ kind ∷ number ∷ count ∷ bits ∷ [] ≡ handed (walk_made x) lent → CoreNumber m a number
core-number m a x r kind number count bits lent p e c d h l =
    let t = p c d h l in
    walk_core m a 128 x r kind number count bits lent e t.0 t.1 t.2

-- ---- a code that was read is what Core reads

-- x: what the crate below answered
pub core_code : (m : List ℕ) (at : ℕ) (x : Result Code Fault) {answer value next : ℕ} (lent : List ℕ) {r : Read}
    → CoreReads m at x r → answer ∷ value ∷ next ∷ [] ≡ handed (code_read x) lent → CoreCode m at answer value next r
unfolding handed code_read
core_code m at (Found v n) {answer} {value} {next} lent p e l k =
    let ea : answer ≡ 0 = cc in
    let ev : v ≡ value = cc in
    let en : n ≡ next = cc in
    let q = rw (ev, en) at (p l k) in
    (λ _. q, λ z. absurd (z ea))
core_code m at (Err f) {answer} lent p e l k =
    let ea : answer ≡ fault_number f = cc in
    let s = fault_some f in
    (λ z. absurd (omega arith), λ _. p l k)

-- ---- what `map_err` makes of an answer that is refused for its map

pub mapped : {A : Type 0} (x : Result A Fault) (y : Result A Refusal) → MatchResult x (λ a. y ≡ Ok a) (λ f. IsErrAnd y (λ e. e ≡ refusal.Map f)) → y ≡ of_map x
mapped (Ok a) y h = h
mapped (Err f) (Ok a) h = absurd h
mapped (Err f) (Err e) h = ap Err h

-- ---- the check: 0 where Core accepts, and no other number

verdict_over : (m : List ℕ) (w : ℕ) (x : Result struct.Accepted Refusal) {r : ℕ} {lent left : List ℕ} → LikeCore m w x → Hands (map_checked x) r lent left
    → length m ≤ limit → core_check (file_of m) w ≡ eqb r 0
unfolding handed IsDone map_checked
verdict_over m w (Ok got) {r} p h l = let e = h.numbers in let z : r ≡ 0 = cc in p l ∙ sym (eq-eqb r 0 z)
verdict_over m w (Err n) {r} p h l = p l ∙ sym (ne_eqb r 0 (λ z. h.zero_is_done z))

pub core-verdict : (m : List ℕ) (x : Verdict) {r : ℕ} {lent left : List ℕ} → LikeCore m 128 x → Hands (map_checked (of_map x)) r lent left → CoreVerdict m r
core-verdict m (Ok got) p h = verdict_over m 128 (Ok got) p h
core-verdict m (Err f) p h = verdict_over m 128 (Err (refusal.Map f)) p h

pub core-verdict_at : (m : List ℕ) (w : ℕ) (x : Result struct.Accepted Refusal) {r : ℕ} {lent left : List ℕ} → LikeCoreAt m w x → Hands (map_checked x) r lent left → CoreVerdictAt m w r
core-verdict_at m w x p h t = verdict_over m w x (p t) h

-- ---- bytes that are written to a lent output

-- x: what the crate below answered
pub writes : {made : Making} {o o' : List ℕ} {x : Result ℕ Refusal} {r : ℕ} {lent left : List ℕ}
    → output.Hands made o o' x → r ∷ left ≡ handed (byte_count x) lent → Writes made o o' r lent left
writes w e = record { hands = count_handed w.answer e; output = w.output }

pub finds : {c : Comparison} {o o' : List ℕ} {x : Result ℕ Refusal} {r : ℕ} {lent left : List ℕ}
    → compare.Finds c o o' x → r ∷ left ≡ handed (byte_count x) lent → Finds c o o' r lent left
finds w e = record { hands = count_handed w.answer e; output = w.output }

-- ---- groups, pages and pick: where the answer is 0, what was found is in the lent numbers at exit

pub found : (x : Result ℕ Refusal) {r g : ℕ} {lent : List ℕ} → Hands (group_found x) r lent (g ∷ []) → r ≡ 0 → x ≡ Ok g
unfolding handed IsDone group_found
found (Ok g') h z = let e = h.numbers in cc
found (Err n) h z = absurd (h.zero_is_done z)

-- what is promised of an answer x holds of the bytes that were written
pub of_written : (P : Result ℕ Refusal → Type 0) (x : Result ℕ Refusal) (lent : List ℕ) {r n : ℕ} → P x → r ∷ n ∷ [] ≡ handed (byte_count x) lent → r ≡ 0 → P (Ok n)
unfolding handed byte_count
of_written P (Ok k) lent {n} p e z = let q : k ≡ n = cc in subst (λ (m : ℕ). P (Ok m)) q p
of_written P (Err f) lent p e z = let q : refusal_number f ≡ 0 = cc in let s = refusal_some f in absurd (omega arith)

pub picked : (x : Result Totals Refusal) {r total first examined instructions : ℕ} {lent : List ℕ}
    → Hands (pick_made x) r lent (total ∷ first ∷ examined ∷ instructions ∷ []) → r ≡ 0 → x ≡ Ok (totals_of total first examined instructions)
unfolding handed IsDone pick_made
picked (Ok t) {r} {total} {first} {examined} {instructions} h z =
    let e = h.numbers in
    let e0 : t.total ≡ total = cc in
    let e1 : t.first ≡ first = cc in
    let e2 : t.examined ≡ examined = cc in
    let e3 : t.instructions ≡ instructions = cc in
    rw (← e0, ← e1, ← e2, ← e3)
picked (Err n) h z = absurd (h.zero_is_done z)

-- x: what the pick below answered, with its outputs at exit; h: what its definition says
pub picks : (h : Handed) (x : Result Totals Refusal) {ps gs : List ℕ} {r : ℕ} {lent left : List ℕ} → below.handed x ps gs ≡ h
    → r ∷ left ≡ handed (pick_made x) lent → Picks h r lent left ps gs
picks h x e q =
    record { hands = hands pick_made (ap (λ (p : Handed). p.answer) e) pick_made_lem q; picks_left = ap (λ (p : Handed). p.picks) e; groups_left = ap (λ (p : Handed). p.groups) e }

-- what holds of the answer below holds of the numbers at exit
pub carried : (P : Result Totals Refusal → Type 0) {h : Handed} {x : Result Totals Refusal} {ps gs : List ℕ} {r total first examined instructions : ℕ} {lent : List ℕ}
    → below.handed x ps gs ≡ h → Picks h r lent (total ∷ first ∷ examined ∷ instructions ∷ []) ps gs → P x → r ≡ 0 → P (Ok (totals_of total first examined instructions))
carried P {h} e p d z = subst P (ap (λ (q : Handed). q.answer) e ∙ picked h.answer p.hands z) d
