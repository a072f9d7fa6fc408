-- The numbers of check, walk, unpack and pack.
-- Assumes nothing.
use Prim.Native.Nat.{ℕ, ◌*◌, ◌/◌, ◌%◌, ◌≤◌, ◌<◌}
use mathlib.Core.Path.{◌≡◌, ◌∙◌, refl, sym, ap, subst}
use mathlib.Core.Bool.{Bool, true, false, not}
use mathlib.Core.Logic.{◌⊎◌, inl, inr, ◌≢◌}
use mathlib.Core.List.{List, [], ◌∷◌}
use native.Mathlib.Omega.{arith}
use native.Mathlib.Decide.{dec_le}
use borrow.Author.Tests.{lt-ltb, le-ltb, ltb-false, eq-eqb, ne_eqb}
use lib.Dec.{ltb, eqb}
use lib.ListN.{length, drop}
use Rattle.asmap_program.specs.declared.Kind.{Kind}
use Rattle.asmap_program.specs.Map.{limit, address_bit}
use Rattle.asmap_program.specs.Demand.{Answers, Aborts}
use Rattle.asmap_program.proofs.Default.{ends_either_way, aborted_gives_zero}
use Rattle.asmap_program.specs.Walk.{Walked}
use Rattle.asmap_program.specs.Check.{check, StopsAt, stop_of}
use Rattle.asmap_program.proofs.Stop.{stops_at, stop_inside}
use Rattle.asmap_codes.specs.Instruction.{map_of}
use Rattle.asmap_codes.proofs.MapLaws.{laws, map-bits}
use Rattle.asmap_check.specs.Check.{unless_long, check_of, Reason, wrong_of, stops_unless_long, stopped_of}
use Rattle.asmap_check.proofs.Limit.{checked}
use Rattle.asmap_walk_bits.specs.declared.Ending.{Ending}
use Rattle.asmap_walk_bits.specs.Walk.{walk_of, summary}
use Rattle.asmap_walk.specs.Interpret.{interpret_over, interpret_of, refused_if}
use Rattle.asmap_walk.proofs.Promised.{as_128}
use Rattle.asmap_records.specs.Output.{Making, No, refuse, within, answer_of}
use Rattle.asmap_records.specs.Unpack.{unpack_of}
use Rattle.asmap_records.specs.Pack.{pack_bits, pack_of}
use Rattle.asmap_records.proofs.OutputLaws.{made_same}
use Rattle.answer_outcome.specs.Outcome.{handed, IsDone, Hands}
use Rattle.answer_maps.specs.Maps.{map_checked, wrong_number, check_stopped, kind_number, end_numbers, walk_made}
use Rattle.answer_bytes.specs.Bytes.{byte_count, Writes}
use Rattle.answers.proofs.Handing.{Refuses}
use Rattle.answers.proofs.NeverZeroMaps.{check-numbers, map-numbers, unpack-numbers, pack-numbers}
use Rattle.demand_statements.specs.AnyInput.{CheckNumber, Checks, Stops, Told, Walks, Unpacks, Packs}
use Rattle.demand_statements.proofs.AnswerLaws.{kept, numbered, refused_as, done_as, handed_out, refused_by}
use Rattle.demand_statements.proofs.TripLaws.{wrote, no_room, left_alone, unpack_made, unpack_size, unpack_answers}
use Rattle.asmap_program.specs.Verdict.{Accepted, Verdict}
use Rattle.asmap_check.specs.Stop.{At}
use Rattle.refusals.specs.declared.Refusal.{Refusal}
use Rattle.std.specs.Prelude.{Result, Ok, Err, Option}
use Rattle.refusals.specs.declared.Refusal.TheVariants as refusal
use Rattle.refusals.specs.declared.Fault.{Fault}
use Rattle.refusals.specs.declared.Fault.TheVariants as fault
use Rattle.refusals.specs.Numbers.{fault_number, of_map}

-- ---- the check

-- a reason of the check is one of its numbers
pub reason-number : (n : ℕ) → Reason n → CheckNumber n
reason-number n (inl h) = inl (omega arith, h.1)
reason-number n (inr e) = inr e

pub number_1 : CheckNumber 1
number_1 = inl (omega arith, omega arith)

from_2 : (n : ℕ) → Reason n → 2 ≤ n
from_2 n (inl h) = h.0
from_2 n (inr e) = omega arith

module _ (m : List ℕ) (w : ℕ) {r : ℕ} {entry exit : List ℕ} where
  pub check-number : Hands (map_checked (of_map (check_of m w))) r entry exit → (r ≡ 0) ⊎ CheckNumber r
  check-number h = numbered CheckNumber _ (map-numbers CheckNumber reason-number m w number_1) h

  -- 1 is for long maps
  long_only : Hands (map_checked (of_map (check_of m w))) r entry exit → r ≡ 1 → 16777216 < length m
  long_only h z = by (dec_le (length m) 16777216)
    where
      not_1 : (r ≡ 0) ⊎ (2 ≤ r) → 16777216 < length m
      not_1 (inl k) = absurd (omega arith)
      not_1 (inr k) = absurd (omega arith)

      by : Dec (length m ≤ 16777216) → 16777216 < length m
      by (yes l) =
          not_1 (numbered (λ n. 2 ≤ n) (map_checked (of_map (check (map_of m) w))) (check-numbers (λ n. 2 ≤ n) from_2 (map_of m) w) (rw (le-ltb limit (length m) l) at h))
      by (no l) = omega arith

  pub checks : Hands (map_checked (of_map (check_of m w))) r entry exit → Checks m w r entry exit
  unfolding map_checked
  checks h = record {
    numbers = check-number h;
    accepted = λ c d e. handed_out (check_of m w) e h;
    refused = λ f e. refused_by (check_of m w) e h;
    too_long = λ l. refused_as _ (ap (λ (b : Bool). map_checked (of_map (unless_long b (check (map_of m) w)))) (lt-ltb limit (length m) l)) h;
    only_then = long_only h;
    untouched = kept _ h;
  }

-- ---- where it stops

-- an answer of 0 hands out the reason and the place, by the call's test; and the map is within the limit
stop-numbers : (m : List ℕ) (long : Bool) → ltb limit (length m) ≡ long → (why : Option Fault) (at : ℕ) {r reason place : ℕ} {entry : List ℕ}
    → Hands (check_stopped (of_map (stops_unless_long long (At why at)))) r entry (reason ∷ place ∷ []) → r ≡ 0
    → (length m ≤ 16777216) × ((reason ≡ wrong_number why) × (place ≡ at))
unfolding handed IsDone check_stopped
stop-numbers m true q why at h z = absurd (h.zero_is_done z)
stop-numbers m false q why at h z = let k = h.numbers in (ltb-false limit (length m) q, (cc, cc))

module _ (m : List ℕ) (w : ℕ) {r reason place : ℕ} {entry : List ℕ} (h : Hands (check_stopped (of_map (stopped_of m w))) r entry (reason ∷ place ∷ [])) where
  found : r ≡ 0 → (length m ≤ 16777216) × ((reason ≡ wrong_number (wrong_of (check (map_of m) w))) × (place ≡ stop_of (map_of m) w))
  found z = stop-numbers m (ltb limit (length m)) refl (wrong_of (check (map_of m) w)) (stop_of (map_of m) w) h z

  -- the reason is the one in the verdict
  same-reason : r ≡ 0 → (v : Verdict) → check_of m w ≡ v → reason ≡ wrong_number (wrong_of v)
  same-reason z v e = let f = found z in f.1.0 ∙ ap (λ (x : Verdict). wrong_number (wrong_of x)) (checked m w f.0 ∙ e)

  by_test : (b : Bool) → ltb limit (length m) ≡ b → check_stopped (of_map (stopped_of m w)) ≡ check_stopped (of_map (stops_unless_long b (At (wrong_of (check (map_of m) w)) (stop_of (map_of m) w))))
  by_test b e = ap (λ (x : Bool). check_stopped (of_map (stops_unless_long x (At (wrong_of (check (map_of m) w)) (stop_of (map_of m) w))))) e

  pub stops : Stops m w r entry reason place
  unfolding check_stopped
  stops = record {
    too_long = λ l. refused_as _ (by_test true (lt-ltb limit (length m) l)) h;
    answered = λ l. done_as _ (by_test false (le-ltb limit (length m) l)) h;
    accepted = λ c d z e. same-reason z (Accepted c d) e;
    refused = λ f z e. same-reason z (Err f) e;
    exact = λ z. (found z).1.1;
    stands = λ z.
        let f = found z in
        subst (StopsAt (map_of m) w (check_of m w)) (sym f.1.1)
        (subst (λ (v : Verdict). StopsAt (map_of m) w v (stop_of (map_of m) w)) (checked m w f.0) (stops_at (map_of m) (laws m) w));
    inside = λ z. omega (arith, (found z).1.1, stop_inside (map_of m) (laws m) w, map-bits m);
    untouched = kept _ h;
  }

-- where it stops, and what the check says
pub stops_as_checked : (m : List ℕ) (w : ℕ) {a r : ℕ} {reason place : ℕ} {entry before after : List ℕ}
    → Stops m w a entry reason place → a ≡ 0 → Checks m w r before after → reason ≡ r
stops_as_checked m w {r} {reason} s z k = by (check_of m w) refl
  where
    by : (v : Verdict) → check_of m w ≡ v → reason ≡ r
    by (Ok got) e = s.accepted got.count got.depth z e ∙ sym (k.accepted got.count got.depth e).0
    by (Err f) e = s.refused f z e ∙ sym (k.refused f e)

-- ---- the walk

-- the numbers of a walk that was made, by the call's two tests
ends_with : (enough long : Bool) (e : Ending) {r kind number count bits : ℕ} {entry : List ℕ}
    → Hands (walk_made (refused_if (not enough) refusal.AddressLength (refused_if long (refusal.Map fault.MapTooLong) (Ok e)))) r entry (kind ∷ number ∷ count ∷ bits ∷ [])
    → r ≡ 0 → kind ∷ number ∷ count ∷ bits ∷ [] ≡ end_numbers e
unfolding handed IsDone walk_made
ends_with false long e h z = absurd (h.zero_is_done z)
ends_with true true e h z = absurd (h.zero_is_done z)
ends_with true false e h z = let k = h.numbers in cc

-- a kind with neither of the numbers 1 and 2 is an abort
aborts : (k : Kind) {kind : ℕ} → kind ≡ kind_number k → kind ≢ 1 → kind ≢ 2 → Aborts k
aborts k {kind} e one two = by (ends_either_way k)
  where
    by : Answers k ⊎ Aborts k → Aborts k
    by (inl (inl q)) = absurd (one (e ∙ ap kind_number q))
    by (inl (inr q)) = absurd (two (e ∙ ap kind_number q))
    by (inr a) = a

-- v: a walk, whose number is 0 where it aborts
told : (v : Walked) → (Aborts v.kind → v.number ≡ 0) → {kind number count bits : ℕ} → kind ∷ number ∷ count ∷ bits ∷ [] ≡ end_numbers (summary v)
    → Told v kind number count bits
told v zero {kind} {number} e =
    let k : kind ≡ kind_number v.kind = cc in
    let n : number ≡ v.number = cc in
    record {
      returned = λ q. k ∙ ap kind_number q;
      differed = λ q. k ∙ ap kind_number q;
      too_few_bits = λ q. k ∙ ap kind_number q;
      opcode_cut = λ q. k ∙ ap kind_number q;
      operand_cut = λ q. k ∙ ap kind_number q;
      abort_gives_0 = λ one two. n ∙ zero (aborts v.kind k one two);
      same_number = n;
      same_count = cc;
      same_bits = cc;
    }

-- the defined walk is such a walk
zero_of : (m a : List ℕ) (w : ℕ) → Aborts (walk_of m a w).kind → (walk_of m a w).number ≡ 0
unfolding walk_of
zero_of m a w = aborted_gives_zero (address_bit a) (map_of m) (laws m) w

-- w: the address bits, which are whole bytes
pub walks : (m a : List ℕ) (w : ℕ) → 8 * (w / 8) ≡ w → {r kind number count bits : ℕ} {entry : List ℕ}
    → Hands (walk_made (interpret_over m a w)) r entry (kind ∷ number ∷ count ∷ bits ∷ []) → Walks m a w r entry kind number count bits
unfolding walk_made
walks m a w whole h =
    let e = summary (walk_of m a w) in
    let long = ltb limit (length m) in
    let by : Bool → Result Ending Refusal = λ (b : Bool). refused_if (not b) refusal.AddressLength (refused_if long (refusal.Map fault.MapTooLong) (Ok e)) in
    let enough : length a ≡ w / 8 → walk_made (interpret_over m a w) ≡ walk_made (refused_if long (refusal.Map fault.MapTooLong) (Ok e)) =
    λ l. ap (λ (b : Bool). walk_made (by b)) (eq-eqb (8 * length a) w (omega arith)) in
    record {
      no_address = λ n. refused_as _ (ap (λ (b : Bool). walk_made (by b)) (ne_eqb (8 * length a) w (λ z. n (omega arith)))) h;
      too_long = λ l k. refused_as _ (enough l ∙ ap (λ (b : Bool). walk_made (refused_if b (refusal.Map fault.MapTooLong) (Ok e))) (lt-ltb limit (length m) k)) h;
      answered = λ l k. done_as _ (enough l ∙ ap (λ (b : Bool). walk_made (refused_if b (refusal.Map fault.MapTooLong) (Ok e))) (le-ltb limit (length m) k)) h;
      told = λ z. told (walk_of m a w) (zero_of m a w) (ends_with (eqb (8 * length a) w) long e h z);
      untouched = kept _ h;
    }

-- the call that takes no width walks by 128 bits
pub over_128 : (m a : List ℕ) {r : ℕ} {lent left : List ℕ} → Hands (walk_made (interpret_of m a)) r lent left → Hands (walk_made (interpret_over m a 128)) r lent left
over_128 m a {r} {lent} {left} h = subst (λ (x : Result Ending Refusal). Hands (walk_made x) r lent left) (sym (as_128 m a)) h

-- ---- unpack and pack

not_made : (m : List ℕ) (w : ℕ) (f : Fault) → check_of m w ≡ Err f → unpack_of m w ≡ No (refusal.Map f)
unfolding unpack_of
not_made m w f e = rw e

-- A call that writes what is made by the check's verdict, in a room as long as o.
pub record ByCheck (m : List ℕ) (w : ℕ) (o o' : List ℕ) (r written written' : ℕ) : Type 0 where
  pub numbers : (r ≡ 0) ⊎ (CheckNumber r ⊎ (r ≡ 14))
  pub refused : (f : Fault) → check_of m w ≡ Err f → r ≡ fault_number f
  pub past : r ≡ 0 → drop written' o' ≡ drop written' o
  pub untouched : (r ≡ 0 → ⊥) → (o' ≡ o) × (written' ≡ written)

-- a number that the check, or a room too short, gives
abbrev pub CheckOr14 : ℕ → Type 0
CheckOr14 n = CheckNumber n ⊎ (n ≡ 14)

pub by_check : (m : List ℕ) (w : ℕ) (o o' : List ℕ) {r written written' : ℕ} (made : Making) → ((f : Fault) → check_of m w ≡ Err f → made ≡ No (refusal.Map f))
    → (CheckOr14 14 → Refuses CheckOr14 (map_checked (of_map (check_of m w))) → Refuses CheckOr14 (byte_count (answer_of (within (length o) made))))
    → Writes made o o' r (written ∷ []) (written' ∷ []) → ByCheck m w o o' r written written'
unfolding byte_count
by_check m w o o' made unmade numbers h = record {
  numbers = numbered CheckOr14 _ (numbers (inr refl) (map-numbers CheckOr14 (λ n k. inl (reason-number n k)) m w (inl number_1))) h.hands;
  refused = λ f e. refused_as _ (ap (λ (x : Making). byte_count (answer_of (within (length o) x))) (unmade f e)) h.hands;
  past = λ z. (wrote made h z).past;
  untouched = left_alone made h;
}

pub unpacks : (m : List ℕ) (w : ℕ) (o o' : List ℕ) {r written written' : ℕ} → Writes (unpack_of m w) o o' r (written ∷ []) (written' ∷ []) → Unpacks m w o o' r written written'
unpacks m w o o' {r} {written} {written'} h =
    let b = by_check m w o o' (unpack_of m w) (not_made m w) (unpack-numbers CheckOr14 (length o) m w) h in
    record {
      numbers = b.numbers;
      refused = b.refused;
      answered = λ c d e k.
          let z = unpack_answers m w o o' c d e k h in
          let u = wrote (unpack_of m w) h z in
          (z, u.many ∙ ap length (made_same (sym (unpack_made m w c d e) ∙ u.these)) ∙ unpack_size m w c d e);
      no_room = λ c d e k. no_room (unpack_of m w) _ o o' (unpack_made m w c d e) (omega (arith, unpack_size m w c d e)) h;
      past = b.past;
      untouched = b.untouched;
    }

no_whole : (rs : List ℕ) → length rs % 16 ≢ 0 → pack_of rs ≡ No refusal.Record
unfolding pack_of pack_bits refuse
no_whole rs n = rw (ne_eqb (length rs % 16) 0 n)

abbrev PackNumber : ℕ → Type 0
PackNumber n = (n ≡ 1) ⊎ ((n ≡ 14) ⊎ ((n ≡ 15) ⊎ (n ≡ 16)))

pub packs : (rs o o' : List ℕ) {r written written' : ℕ} → Writes (pack_of rs) o o' r (written ∷ []) (written' ∷ []) → Packs rs o o' r written written'
unfolding byte_count
packs rs o o' w = record {
  numbers = numbered PackNumber _ (pack-numbers PackNumber (inl refl) (inr (inr (inl refl))) (inr (inr (inr refl))) (length o) rs (inr (inl refl))) w.hands;
  no_records = λ n. refused_as _ (ap (λ (x : Making). byte_count (answer_of (within (length o) x))) (no_whole rs n)) w.hands;
  past = λ z. (wrote (pack_of rs) w z).past;
  untouched = left_alone (pack_of rs) w;
}
