-- Unpack and pack, one after the other, from what the two calls promise and the two round trips (asmap_records, `RoundTrip`).
-- Assumes nothing.
use Prim.Native.Nat.{ℕ, ◌*◌, ◌≤◌, ◌<◌}
use mathlib.Core.Path.{◌≡◌, ◌∙◌, refl, sym, ap}
use mathlib.Core.Bool.{Bool, true, false}
use mathlib.Core.List.{List, [], ◌∷◌}
use native.Mathlib.Omega.{arith}
use borrow.Author.Tests.{lt-ltb, le-ltb}
use lib.Dec.{ltb}
use lib.ListN.{length, take, drop, length-take}
use lib.Seq.{take-append_seam, drop-append_seam}
use Rattle.asmap_program.specs.Check.{unpacked}
use Rattle.asmap_codes.specs.Instruction.{map_of}
use Rattle.asmap_check.specs.Check.{check_of}
use Rattle.asmap_records.specs.Record.{records_of}
use Rattle.asmap_records.specs.Output.{Making, Made, No, refuse, on, within, leaves, answer_of}
use Rattle.asmap_records.specs.Unpack.{unpack_as, unpack_of}
use Rattle.asmap_records.specs.Pack.{pack_of}
use Rattle.asmap_check.proofs.Limit.{accepted_within}
use Rattle.byte_numbers.proofs.NumberLaws.{AllBytes}
use Rattle.asmap_records.proofs.UnpackLaws.{unpack-length}
use Rattle.asmap_records.proofs.OutputLaws.{made_same}
use Rattle.asmap_records.proofs.RoundTrip.{unpacked_then_packed, packed_then_unpacked}
use Rattle.answer_outcome.specs.Outcome.{handed, IsDone, Hands}
use Rattle.answer_bytes.specs.Bytes.{byte_count, Writes}
use Rattle.demand_statements.proofs.AnswerLaws.{kept}
use Rattle.demand_statements.specs.Same.{Again, UnpackedThenPacked}
use Rattle.asmap_program.specs.Verdict.{Accepted, Verdict}
use Rattle.std.specs.Prelude.{Err, Ok}
use Rattle.refusals.specs.declared.Refusal.TheVariants as refusal

-- what a call that answered 0 made, and where it stands
pub record Wrote (made : Making) (o o' : List ℕ) (n : ℕ) : Type 0 where
  pub bytes : List ℕ
  pub these : made ≡ Made bytes
  pub many : n ≡ length bytes
  pub there : take n o' ≡ bytes
  pub past : drop n o' ≡ drop n o

wrote_in : (b : Bool) (bs o o' : List ℕ) {r n : ℕ} {lent : List ℕ} → Hands (byte_count (answer_of (refuse b refusal.OutputTooShort (Made bs)))) r lent (n ∷ [])
    → o' ≡ leaves (refuse b refusal.OutputTooShort (Made bs)) o → r ≡ 0 → Wrote (Made bs) o o' n
unfolding handed IsDone byte_count refuse
wrote_in true bs o o' h e z = absurd (h.zero_is_done z)
wrote_in false bs o o' {r} {n} h e z =
    let k = h.numbers in
    let l : n ≡ length bs = cc in
    record { bytes = bs; these = refl; many = l; there = rw (l, e) (take-append_seam bs (drop (length bs) o)); past = rw (l, e) (drop-append_seam bs (drop (length bs) o)) }

pub wrote : (made : Making) {o o' : List ℕ} {r n : ℕ} {lent : List ℕ} → Writes made o o' r lent (n ∷ []) → r ≡ 0 → Wrote made o o' n
unfolding IsDone byte_count
wrote (Made bs) {o} {o'} w z = wrote_in (ltb (length o) (length bs)) bs o o' w.hands w.output z
wrote (No k) w z = absurd (w.hands.zero_is_done z)

-- so many bytes the output has
pub inside : {made : Making} {o o' : List ℕ} {n : ℕ} → Wrote made o o' n → n ≤ length o'
inside {made} {o} {o'} {n} w = let e = ap length w.there in omega (arith, length-take n o', w.many)

-- what is made and has room is answered by 0
pub has_room : (made : Making) (bs o o' : List ℕ) {r : ℕ} {lent left : List ℕ} → made ≡ Made bs → length bs ≤ length o → Writes made o o' r lent left → r ≡ 0
unfolding handed byte_count refuse
has_room made bs o o' e h w = let k = rw (e, le-ltb (length o) (length bs) h) at w.hands.numbers in cc

-- and 14 where it has none
pub no_room : (made : Making) (bs o o' : List ℕ) {r : ℕ} {lent left : List ℕ} → made ≡ Made bs → length o < length bs → Writes made o o' r lent left → r ≡ 14
unfolding handed byte_count refuse
no_room made bs o o' e h w = let k = rw (e, lt-ltb (length o) (length bs) h) at w.hands.numbers in cc

-- a refused call leaves the output
unwritten : (x : Making) {o o' : List ℕ} {r : ℕ} {lent left : List ℕ} → Hands (byte_count (answer_of x)) r lent left → o' ≡ leaves x o → (r ≡ 0 → ⊥) → o' ≡ o
unfolding handed byte_count
unwritten (Made bs) {r} h e n = let k = h.numbers in let z : r ≡ 0 = cc in absurd (n z)
unwritten (No k) h e n = e

pub left_alone : (made : Making) {o o' : List ℕ} {r n n' : ℕ} → Writes made o o' r (n ∷ []) (n' ∷ []) → (r ≡ 0 → ⊥) → (o' ≡ o) × (n' ≡ n)
left_alone made {o} w z =
    let e = kept (byte_count (answer_of (within (length o) made))) w.hands z in
    (unwritten (within (length o) made) w.hands w.output z, (cc))

-- a map that was unpacked is accepted
unpacks : (m : List ℕ) (w : ℕ) (rs : List ℕ) (v : Verdict) → unpack_as m w v ≡ Made rs → (c : ℕ) × (d : ℕ) × (v ≡ Accepted c d)
unpacks m w rs (Ok got) e = (got.count, got.depth, refl)
unpacks m w rs (Err n) e = absurd cc

module _ (m : List ℕ) (w : ℕ) where
  pub unpack_accepts : (rs : List ℕ) → unpack_of m w ≡ Made rs → (c : ℕ) × (d : ℕ) × (check_of m w ≡ Accepted c d)
  unfolding unpack_of
  unpack_accepts rs e = unpacks m w rs (check_of m w) e

  pub unpack_made : (c d : ℕ) → check_of m w ≡ Accepted c d → unpack_of m w ≡ Made (records_of (unpacked (map_of m) w))
  unfolding unpack_of
  unpack_made c d e = rw e

  -- sixteen bytes for each of the c instructions
  pub unpack_size : (c d : ℕ) → check_of m w ≡ Accepted c d → length (records_of (unpacked (map_of m) w)) ≡ 16 * c
  unpack_size c d e = unpack-length m w c d (accepted_within m w c d e).1

  -- unpack refuses no accepted map that has room
  pub unpack_answers : (o o' : List ℕ) {r : ℕ} {lent left : List ℕ} (c d : ℕ) → check_of m w ≡ Accepted c d
      → 16 * c ≤ length o → Writes (unpack_of m w) o o' r lent left → r ≡ 0
  unpack_answers o o' c d e h v =
      has_room (unpack_of m w) _ o o' (unpack_made c d e) (omega (arith, unpack_size c d e)) v

  module _ {records records' bytes bytes' : List ℕ} {r written : ℕ} where
    -- unpack refused
    pub not_unpacked : {lent left : List ℕ} → Writes (unpack_of m w) records records' r lent left → (r ≡ 0 → ⊥)
        → UnpackedThenPacked m w records bytes bytes' r written
    not_unpacked v n = record { again = λ z. absurd (n z); answered = λ c d e h k. unpack_answers records records' c d e h v }

    -- unpack answered q, 0, and wrote n bytes; r is pack's answer
    pub packed_again : AllBytes m → {q n : ℕ} {lent lent' : List ℕ} → Writes (unpack_of m w) records records' q lent (n ∷ []) → q ≡ 0
        → Writes (pack_of (take n records')) bytes bytes' r lent' (written ∷ []) → UnpackedThenPacked m w records bytes bytes' r written
    packed_again all {q} {n} x z p =
        let u = wrote (unpack_of m w) x z in
        let a = unpack_accepts u.bytes u.these in
        let t : pack_of (take n records') ≡ Made m
        = ap pack_of u.there ∙ sym (ap (on pack_of) u.these) ∙ unpacked_then_packed m w a.0 a.1 all a.2 in
        record {
          again = λ y.
              let v = wrote (pack_of (take n records')) p y in
              let s : v.bytes ≡ m = made_same (sym t ∙ v.these) in
              record { as_long = v.many ∙ ap length s; same = v.there ∙ s };
          answered = λ c d e h k. has_room (pack_of (take n records')) m bytes bytes' t k p;
        }

-- pack answered q, 0, and wrote n bytes; r is unpack's answer
pub unpacked_again : (records : List ℕ) (w : ℕ) {bytes bytes' again again' : List ℕ} {q n r written : ℕ} {lent lent' : List ℕ} → AllBytes records
    → Writes (pack_of records) bytes bytes' q lent (n ∷ []) → q ≡ 0
    → Writes (unpack_of (take n bytes') w) again again' r lent' (written ∷ []) → r ≡ 0 → Again records again' written
unpacked_again records w {bytes'} {n} all p z x y =
    let v = wrote (pack_of records) p z in
    let u = wrote (unpack_of (take n bytes') w) x y in
    let a = unpack_accepts (take n bytes') w u.bytes u.these in
    let t : unpack_of (take n bytes') w ≡ Made records
    = packed_then_unpacked records (take n bytes') w a.0 a.1 all (v.these ∙ ap Made (sym v.there)) a.2 in
    let s : u.bytes ≡ records = made_same (sym t ∙ u.these) in
    record { as_long = u.many ∙ ap length s; same = u.there ∙ s }
