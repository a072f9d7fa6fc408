-- An instruction of the unpacked list has its record among the bytes that unpack writes.
-- Assumes nothing.
use Prim.Native.Nat.{ℕ, suc, ◌+◌, ◌*◌, ◌≤◌}
use mathlib.Core.Path.{◌≡◌, ◌∙◌, refl, sym, ap, subst}
use mathlib.Core.Logic.{◌⊎◌, inl, inr}
use mathlib.Core.List.Memᴰ
use mathlib.Core.List.{List, [], ◌∷◌, ◌++◌, Memᴰ}
use native.Mathlib.Omega.{arith}
use lib.ListN.{length, take, get_or}
use lib.Seq.{get_or-take, get_or-drop}
use Rattle.asmap_program.specs.declared.Instruction.{Instruction}
use Rattle.asmap_program.specs.Check.{unpacked}
use Rattle.asmap_codes.specs.Instruction.{map_of}
use Rattle.asmap_check.proofs.Limit.{accepted_within}
use Rattle.asmap_walk.specs.Interpret.{interpret_over}
use Rattle.asmap_records.specs.Record.{record_of, records_of}
use Rattle.asmap_records.specs.Unpack.{unpack_of}
use Rattle.asmap_records.proofs.RecordLaws.{length_records}
use Rattle.byte_numbers.proofs.NumberLaws.{number_of-bytes, number4-drop}
use Rattle.asmap_records.proofs.OutputLaws.{made_same}
use Rattle.asmap_records.proofs.Listing.{Listing, none, then, accepted_lists}
use Rattle.asmap_records.proofs.Reading.{Stands, stands}
use Rattle.answer_outcome.specs.Outcome.{Hands}
use Rattle.answer_maps.specs.Maps.{walk_made}
use Rattle.answer_bytes.specs.Bytes.{Writes}
use Rattle.demand_statements.specs.Walked.{little, RecordAt, InRecords}
use Rattle.demand_statements.proofs.TripLaws.{wrote, unpack_accepts, unpack_made}
use Rattle.demand_statements.proofs.WalkLaws.{has-bits, Ends}

-- ---- the records of a list

-- the first record
here : (m : List ℕ) (p n : ℕ) (i : Instruction) (rest : List ℕ) → length m ≤ 16777216 → Stands m p i → 16 ≤ n → RecordAt (record_of i ++ rest) n 0 i
here m p n i rest s v h = record {
  inside = omega arith;
  opcode = refl;
  operand = number_of-bytes i.operand v.operand;
  place = number_of-bytes i.place (omega (arith, v.here, v.inside));
  size = number_of-bytes i.size (omega (arith, v.inside));
}

-- a later one
there : (x i : Instruction) (rest : List ℕ) (n j : ℕ) → RecordAt rest n j i → RecordAt (record_of x ++ rest) (16 + n) (suc j) i
there x i rest n j r =
    let l = record_of x ++ rest in
    let e : 16 * suc j ≡ 16 + 16 * j = omega arith in
    let four : (k : ℕ) → little l (16 * suc j + k) ≡ little rest (16 * j + k)
    = λ k. let e : 16 * suc j + k ≡ 16 + (16 * j + k) = omega arith in ap (little l) e ∙ sym (number4-drop l 16 (16 * j + k)) in
    record {
      inside = omega (arith, r.inside);
      opcode = ap (λ (k : ℕ). get_or l k 0) e ∙ sym (get_or-drop 16 l (16 * j) 0) ∙ r.opcode;
      operand = four 4 ∙ r.operand;
      place = four 8 ∙ r.place;
      size = four 12 ∙ r.size;
    }

in_records : (m : List ℕ) {p q : ℕ} {is : List Instruction} → length m ≤ 16777216 → Listing (map_of m) p is q
    → (i : Instruction) → Memᴰ i is → (j : ℕ) × RecordAt (records_of is) (16 * length is) j i
unfolding map_of
in_records m s none i h = absurd (Memᴰ.not-nil h)
in_records m {p} s (then {i = x} {is = is} f l) i h = by (in_records m s l i) (Memᴰ.cases_cons h)
  where
    by : (Memᴰ i is → (j : ℕ) × RecordAt (records_of is) (16 * length is) j i) → (i ≡ x) ⊎ Memᴰ i is
        → (j : ℕ) × RecordAt (records_of (x ∷ is)) (16 * suc (length is)) j i
    by r (inl e) = (0, subst (λ (k : Instruction). RecordAt (records_of (x ∷ is)) (16 * suc (length is)) 0 k) (sym e) (here m p (16 * suc (length is)) x (records_of is) s (stands m p x f) (omega arith)))
    by r (inr k) =
        let t = r k in
        let e : 16 + 16 * length is ≡ 16 * suc (length is) = omega arith in
        (suc t.0, subst (λ (n : ℕ). RecordAt (records_of (x ∷ is)) n (suc t.0) i) e (there x i (records_of is) (16 * length is) t.0 t.1))

-- ---- the bytes that were written

little-take : (n : ℕ) (o : List ℕ) (k : ℕ) → k + 4 ≤ n → little (take n o) k ≡ little o k
little-take n o k h =
    rw (get_or-take n o k 0 (omega arith), get_or-take n o (k + 1) 0 (omega arith), get_or-take n o (k + 2) 0 (omega arith), get_or-take n o (k + 3) 0 (omega arith))

in_front : (n : ℕ) (o : List ℕ) (j : ℕ) (i : Instruction) → RecordAt (take n o) n j i → RecordAt o n j i
in_front n o j i r =
    let h = r.inside in
    record {
      inside = h;
      opcode = sym (get_or-take n o (16 * j) 0 (omega arith)) ∙ r.opcode;
      operand = sym (little-take n o (16 * j + 4) (omega arith)) ∙ r.operand;
      place = sym (little-take n o (16 * j + 8) (omega arith)) ∙ r.place;
      size = sym (little-take n o (16 * j + 12) (omega arith)) ∙ r.size;
    }

-- unpack answered q, 0, and wrote n bytes; r is the walk's answer
pub walk_listed : (m a : List ℕ) (w : ℕ) {o o' lent lent' left : List ℕ} {q n r kind number count bits : ℕ} → Writes (unpack_of m w) o o' q lent (n ∷ []) → q ≡ 0
    → Hands (walk_made (interpret_over m a w)) r lent' left → Ends m a w r kind number count bits → r ≡ 0 → InRecords m a w o' n
walk_listed m a w {o'} {n} x z h p y i k =
    let u = wrote (unpack_of m w) x z in
    let v = unpack_accepts m w u.bytes u.these in
    let is = unpacked (map_of m) w in
    let s : u.bytes ≡ records_of is = made_same (sym (unpack_made m w v.0 v.1 v.2) ∙ u.these) in
    let t = accepted_within m w v.0 v.1 v.2 in
    let f = p v.0 v.1 v.2 (has-bits m a w h y) in
    let at = in_records m t.0 (accepted_lists (map_of m) w t.1).all i (f.kept.listed i k) in
    let e : 16 * length is ≡ n = sym (u.many ∙ ap length s ∙ length_records is) in
    let r : RecordAt (take n o') n at.0 i
    = subst (λ (l : List ℕ). RecordAt l n at.0 i) (sym (u.there ∙ s)) (subst (λ (b : ℕ). RecordAt (records_of is) b at.0 i) e at.1) in
    (at.0, in_front n o' at.0 i r)
