-- Laws of pack's definition: when a record gives bits and when it is refused, and records one after the other.
-- Assumes nothing.
use mathlib.Core.Path.{◌≡◌, ◌∙◌, refl, ap}
use mathlib.Core.Bool.{Bool, true, false, ◌&&◌}
use mathlib.Core.List.{List, ◌++◌}
use Prim.Native.Nat.{ℕ, zero, suc, ◌+◌, ◌/◌, ◌%◌, ◌≤◌, ◌<◌}
use native.Mathlib.Omega.{arith}
use borrow.Author.Tests.{eq-eqb, ne_eqb, lt-ltb, le-ltb, ltb-false, eqb-true, not-false}
use lib.Dec.{eqb}
use lib.ListN.{length, get_or, drop, length-append}
use lib.Seq.{get_or-drop}
use Rattle.asmap_codes.specs.Row.{type_row, operand_row, in_range}
use Rattle.asmap_codes.specs.Encode.{instruction_bits}
use Rattle.asmap_bit_writer.specs.Bytes.{bytes_of}
use Rattle.byte_numbers.specs.Numbers.{number4}
use Rattle.byte_numbers.proofs.NumberLaws.{number4-drop}
use Rattle.asmap_records.specs.Record.{zeros3}
use Rattle.asmap_records.specs.Output.{Making, Made, No, refuse, on}
use Rattle.asmap_records.specs.Pack.{field_bits, record_bits, records_bits, pack_bits, pack_of}
use Rattle.asmap_records.proofs.RecordLaws.{and_both}
use Rattle.asmap_records.proofs.OutputLaws.{passed, made_same}
use Rattle.refusals.specs.declared.Fault.TheVariants as fault
use Rattle.refusals.specs.declared.Refusal.TheVariants as refusal

-- ---- one record, over its fields

module _ (op : ℕ) (zeros : Bool) (v place size at : ℕ) where
  abbrev ranged : Bool
  ranged = in_range type_row op && in_range (operand_row op) v

  abbrev right : Bool
  right = zeros && eqb place at && eqb size (length (instruction_bits op v))

  pub field_range : ranged ≡ false → field_bits op zeros v place size at ≡ No refusal.OutOfRange
  unfolding field_bits refuse
  field_range h = rw h

  pub field_wrong : ranged ≡ true → right ≡ false → field_bits op zeros v place size at ≡ No refusal.Record
  unfolding field_bits refuse
  field_wrong h a = rw (h, a)

  pub field_long : ranged ≡ true → right ≡ true → 134217728 < at + length (instruction_bits op v) → field_bits op zeros v place size at ≡ No (refusal.Map fault.MapTooLong)
  unfolding field_bits refuse
  field_long h a d = rw (h, a, lt-ltb 134217728 (at + length (instruction_bits op v)) d)

  pub field_made : ranged ≡ true → right ≡ true → at + length (instruction_bits op v) ≤ 134217728
      → field_bits op zeros v place size at ≡ Made (instruction_bits op v)
  unfolding field_bits refuse
  field_made h a d = rw (h, a, le-ltb 134217728 (at + length (instruction_bits op v)) d)

  -- what makes the second test fail, one by one
  pub wrong-zeros : zeros ≡ false → right ≡ false
  wrong-zeros h = rw h

  pub wrong_place : zeros ≡ true → (place ≡ at → ⊥) → right ≡ false
  wrong_place h n = rw (h, ne_eqb place at n)

  pub wrong_size : zeros ≡ true → place ≡ at → (size ≡ length (instruction_bits op v) → ⊥) → right ≡ false
  wrong_size h p n = rw (h, eq-eqb place at p, ne_eqb size (length (instruction_bits op v)) n)

  pub all_right : zeros ≡ true → place ≡ at → size ≡ length (instruction_bits op v) → right ≡ true
  all_right h p n = rw (h, eq-eqb place at p, eq-eqb size (length (instruction_bits op v)) n)

  -- a record that gives bits: what was tested of it
  pub record Right (bs : List ℕ) : Type 0 where
    pub range : ranged ≡ true
    pub blank : zeros ≡ true
    pub placed : place ≡ at
    pub sized : size ≡ length (instruction_bits op v)
    pub ended : at + length (instruction_bits op v) ≤ 134217728
    pub bits : bs ≡ instruction_bits op v

  pub field_right : (bs : List ℕ) → field_bits op zeros v place size at ≡ Made bs → Right bs
  unfolding field_bits
  field_right bs e =
      let a = passed _ refusal.OutOfRange _ bs e in
      let b = passed _ refusal.Record _ bs a.1 in
      let c = passed _ (refusal.Map fault.MapTooLong) _ bs b.1 in
      let d = and_both (zeros && eqb place at) (eqb size (length (instruction_bits op v))) (not-false _ b.0) in
      let f = and_both zeros (eqb place at) d.0 in
      record {
        range = not-false _ a.0;
        blank = f.0;
        placed = eqb-true place at f.1;
        sized = eqb-true size (length (instruction_bits op v)) d.1;
        ended = ltb-false 134217728 (at + length (instruction_bits op v)) c.0;
        bits = made_same c.1;
      }

-- ---- the record that l starts with

pub record_right : (l : List ℕ) (at : ℕ) (bs : List ℕ) → record_bits l at ≡ Made bs
    → Right (get_or l 0 0) (zeros3 l) (number4 l 4) (number4 l 8) (number4 l 12) at bs
record_right l at bs e = field_right (get_or l 0 0) (zeros3 l) (number4 l 4) (number4 l 8) (number4 l 12) at bs e

-- the record that stands at a byte
pub record_at_lem : (l : List ℕ) (from at : ℕ)
    → record_bits (drop from l) at ≡ field_bits (get_or l from 0) (zeros3 (drop from l)) (number4 l (from + 4)) (number4 l (from + 8)) (number4 l (from + 12)) at
record_at_lem l from at =
    let z : from + 0 ≡ from = omega arith in
    let a : get_or (drop from l) 0 0 ≡ get_or l from 0 = get_or-drop from l 0 0 ∙ ap (λ (k : ℕ). get_or l k 0) z in
    same (zeros3 (drop from l)) a (number4-drop l from 4) (number4-drop l from 8) (number4-drop l from 12)
  where
    same : (z : Bool) {a a' b b' c c' d d' : ℕ} → a ≡ a' → b ≡ b' → c ≡ c' → d ≡ d' → field_bits a z b c d at ≡ field_bits a' z b' c' d' at
    same z p q r s = rw (p, q, r, s)

-- ---- records one after the other

-- records that give bits: the first one's, and those of the rest
pub record Split (n : ℕ) (l : List ℕ) (at : ℕ) (all : List ℕ) : Type 0 where
  pub first : List ℕ
  pub rest : List ℕ
  pub here : record_bits l at ≡ Made first
  pub after : records_bits n (drop 16 l) (at + length first) ≡ Made rest
  pub both : all ≡ first ++ rest

split_rest : (n : ℕ) (l : List ℕ) (at : ℕ) (all bs : List ℕ) (q : Making) → record_bits l at ≡ Made bs → records_bits n (drop 16 l) (at + length bs) ≡ q
    → on (λ (cs : List ℕ). Made (bs ++ cs)) q ≡ Made all → Split n l at all
split_rest n l at all bs (Made cs) e f h = record { first = bs; rest = cs; here = e; after = f; both = cc }
split_rest n l at all bs (No k) e f h = let z : ◌≡◌ {A = ℕ} 0 1 = cc in absurd (omega arith)

split_first : (n : ℕ) (l : List ℕ) (at : ℕ) (all : List ℕ) (r : Making) → record_bits l at ≡ r
    → on (λ (bs : List ℕ). on (λ (cs : List ℕ). Made (bs ++ cs)) (records_bits n (drop 16 l) (at + length bs))) r ≡ Made all → Split n l at all
split_first n l at all (Made bs) e h = split_rest n l at all bs (records_bits n (drop 16 l) (at + length bs)) e refl h
split_first n l at all (No k) e h = let z : ◌≡◌ {A = ℕ} 0 1 = cc in absurd (omega arith)

pub records_split : (n : ℕ) (l : List ℕ) (at : ℕ) (all : List ℕ) → records_bits (suc n) l at ≡ Made all → Split n l at all
records_split n l at all h = split_first n l at all (record_bits l at) refl h

-- records that give bits end within the greatest map
pub records_bound : (n : ℕ) (l : List ℕ) (at : ℕ) (all : List ℕ) → at ≤ 134217728 → records_bits n l at ≡ Made all → at + length all ≤ 134217728
records_bound zero l at all h e = omega (arith, ap length (made_same e))
records_bound (suc n) l at all h e =
    let s = records_split n l at all e in
    let r = record_right l at s.first s.here in
    let b = records_bound n (drop 16 l) (at + length s.first) s.rest (omega (arith, r.ended, ap length r.bits)) s.after in
    omega (arith, ap length s.both, length-append s.first s.rest)

-- ---- all of them

pub pack_ragged : (rs : List ℕ) → (length rs % 16 ≡ 0 → ⊥) → pack_of rs ≡ No refusal.Record
unfolding pack_of pack_bits refuse
pack_ragged rs h = rw (ne_eqb (length rs % 16) 0 h)

-- whole records: as their bits are made
pub pack_whole : (rs : List ℕ) (r : Making) → length rs % 16 ≡ 0 → records_bits (length rs / 16) rs 0 ≡ r
    → pack_of rs ≡ on (λ (bs : List ℕ). Made (bytes_of bs)) r
unfolding pack_of pack_bits refuse
pack_whole rs r h e = rw (eq-eqb (length rs % 16) 0 h) (ap (on (λ (bs : List ℕ). Made (bytes_of bs))) e)
