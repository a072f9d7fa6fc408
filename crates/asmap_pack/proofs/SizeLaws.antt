-- Laws of pack's first loop: where a record ends, and the records from a byte on. Assumes nothing.
use mathlib.Core.Path.{◌≡◌, ◌∙◌, refl, sym, ap}
use mathlib.Core.Logic.{◌⊎◌, inl, inr}
use mathlib.Core.Bool.{Bool, true, false, ◌&&◌}
use mathlib.Core.List.{List, [], ◌∷◌, ◌++◌}
use Prim.Native.Nat.{ℕ, zero, suc, ◌+◌, ◌≤◌, ◌<◌}
use native.Mathlib.Omega.{arith}
use native.Mathlib.Numerals.{add-one}
use lib.Dec.{eqb, lit<}
use lib.ListN.{length, get_or, take, drop, length-append, drop_of_length-le}
use Rattle.std.proofs.Common.{drop-cons}
use Rattle.std.specs.Simd.{first_chunks}
use Rattle.std.proofs.lemmas.List.{get_or-take}
use Rattle.asmap_codes.specs.Row.{type_row, operand_row, in_range}
use Rattle.asmap_codes.specs.Encode.{instruction_bits}
use Rattle.byte_numbers.specs.Numbers.{number4}
use Rattle.asmap_records.specs.Record.{zeros3}
use Rattle.asmap_records.specs.Output.{Making, Made, No, on}
use Rattle.asmap_records.specs.Pack.{record_bits, records_bits}
use Rattle.asmap_records.proofs.RecordLaws.{first-zeros, first_wrong}
use Rattle.asmap_records.proofs.PackLaws.{field_range, field_wrong, field_long, field_made, wrong-zeros, wrong_place, wrong_size, all_right, record_right}
use Rattle.asmap_pack.specs.models.Size.{size_from}
use Rattle.asmap_pack.specs.models.Records.{bits_from}
use Rattle.asmap_bit_writer.proofs.WrittenLaws.{Measured}
use Rattle.refusals.specs.declared.Fault.TheVariants as fault
use Rattle.refusals.specs.declared.Refusal.{Refusal}
use Rattle.refusals.specs.declared.Refusal.TheVariants as refusal
use Rattle.std.specs.Prelude.{Ok, Err}

-- what was made where an end came out
pub ends_made : (at e : ℕ) (r : Making) → size_from at r ≡ Ok e → (bs : List ℕ) × (r ≡ Made bs) × (e ≡ at + length bs)
ends_made at e (Made bs) h = (bs, refl, cc)
ends_made at e (No n) h = let z : ◌≡◌ {A = ℕ} 0 1 = cc in absurd (omega arith)

pub wrong_no : (at : ℕ) (n : Refusal) (r : Making) → size_from at r ≡ Err n → r ≡ No n
wrong_no at n (Made bs) h = let z : ◌≡◌ {A = ℕ} 0 1 = cc in absurd (omega arith)
wrong_no at n (No k) h = cc

-- a record's end is within the greatest map
pub end_bound : (l : List ℕ) (at e : ℕ) → size_from at (record_bits l at) ≡ Ok e → e ≤ 134217728
end_bound l at e h =
    let m = ends_made at e (record_bits l at) h in
    let r = record_right l at m.0 m.1 in
    omega (arith, m.2, r.ended, ap length r.bits)

-- ---- the record, as the code tests it

module _ (l : List ℕ) (at : ℕ) where
  abbrev op : ℕ
  op = get_or l 0 0

  abbrev v : ℕ
  v = number4 l 4

  abbrev zeros : Bool
  zeros = zeros3 l

  abbrev place : ℕ
  place = number4 l 8

  abbrev size : ℕ
  size = number4 l 12

  ends_as : (r : Making) → record_bits l at ≡ r → size_from at r ≡ size_from at (record_bits l at)
  ends_as r e = sym (ap (size_from at) e)

  pub end_range : (in_range type_row op && in_range (operand_row op) v) ≡ false → Err refusal.OutOfRange ≡ size_from at (record_bits l at)
  end_range h = ends_as (No refusal.OutOfRange) (field_range op zeros v place size at h)

  module _ (bits : ℕ) (h : Measured op v bits) where
    end-zeros : (number4 l 0 ≡ op → ⊥) → Err refusal.Record ≡ size_from at (record_bits l at)
    end-zeros n = ends_as (No refusal.Record) (field_wrong op zeros v place size at h.ranged (wrong-zeros op zeros v place size at (first_wrong l n)))

    module _ (z : number4 l 0 ≡ op) where
      end_place : (place ≡ at → ⊥) → Err refusal.Record ≡ size_from at (record_bits l at)
      end_place n = ends_as (No refusal.Record) (field_wrong op zeros v place size at h.ranged (wrong_place op zeros v place size at (first-zeros l z) n))

      end_size : place ≡ at → (size ≡ bits → ⊥) → Err refusal.Record ≡ size_from at (record_bits l at)
      end_size p n =
          ends_as (No refusal.Record) (field_wrong op zeros v place size at h.ranged
          (wrong_size op zeros v place size at (first-zeros l z) p (λ k. n (k ∙ sym h.len))))

      right : place ≡ at → size ≡ bits → (zeros && eqb place at && eqb size (length (instruction_bits op v))) ≡ true
      right p q = all_right op zeros v place size at (first-zeros l z) p (q ∙ h.len)

      pub end_long : place ≡ at → size ≡ bits → 134217728 < at + bits → Err (refusal.Map fault.MapTooLong) ≡ size_from at (record_bits l at)
      end_long p q k = ends_as (No (refusal.Map fault.MapTooLong)) (field_long op zeros v place size at h.ranged (right p q) (omega (arith, h.len)))

      pub end_made : place ≡ at → size ≡ bits → at + bits ≤ 134217728 → Ok (at + bits) ≡ size_from at (record_bits l at)
      end_made p q k =
          ap (λ (n : ℕ). Ok (at + n)) h.len
          ∙ ends_as (Made (instruction_bits op v)) (field_made op zeros v place size at h.ranged (right p q) (omega (arith, h.len)))

-- one of its three tests fails: a, b and c are the numbers that were read
pub end_wrong : (l : List ℕ) (at bits a b c : ℕ) → Measured (get_or l 0 0) (number4 l 4) bits → a ≡ number4 l 0 → b ≡ number4 l 8 → c ≡ number4 l 12
    → (((a ≡ get_or l 0 0) × (b ≡ at) × (c ≡ bits → ⊥)) ⊎ (((a ≡ get_or l 0 0) × (b ≡ at → ⊥)) ⊎ (a ≡ get_or l 0 0 → ⊥)))
    → Err refusal.Record ≡ size_from at (record_bits l at)
end_wrong l at bits a b c h p q r (inl t) = end_size l at bits h (sym p ∙ t.0) (sym q ∙ t.1) (λ e. t.2 (r ∙ e))
end_wrong l at bits a b c h p q r (inr (inl t)) = end_place l at bits h (sym p ∙ t.0) (λ e. t.1 (q ∙ e))
end_wrong l at bits a b c h p q r (inr (inr t)) = end-zeros l at bits h (λ e. t (p ∙ e))

-- ---- the first record, and the rest

on_wrong : (at : ℕ) (n : Refusal) (k : List ℕ → Making) (r : Making) → size_from at r ≡ Err n → size_from at (on k r) ≡ Err n
on_wrong at n k (Made bs) e = let z : ◌≡◌ {A = ℕ} 0 1 = cc in absurd (omega arith)
on_wrong at n k (No j) e = e

sizes-append : (at : ℕ) (bs : List ℕ) (r : Making) → size_from at (on (λ (cs : List ℕ). Made (bs ++ cs)) r) ≡ size_from (at + length bs) r
sizes-append at bs (Made cs) = ap Ok (omega (arith, length-append bs cs))
sizes-append at bs (No n) = refl

on-ends : (rs : List (List ℕ)) (at e : ℕ) (r : Making) → size_from at r ≡ Ok e
    → size_from at (on (λ (bs : List ℕ). on (λ (cs : List ℕ). Made (bs ++ cs)) (bits_from rs (at + length bs))) r) ≡ size_from e (bits_from rs e)
on-ends rs at e (Made bs) h =
    let q : at + length bs ≡ e = cc in
    sizes-append at bs (bits_from rs (at + length bs)) ∙ ap (λ (p : ℕ). size_from p (bits_from rs p)) q
on-ends rs at e (No k) h = let z : ◌≡◌ {A = ℕ} 0 1 = cc in absurd (omega arith)

module _ (rs : List (List ℕ)) (i at : ℕ) (l : i < length rs) where
  pub first-record : drop i rs ≡ get_or rs i [] ∷ drop (i + 1) rs
  first-record = rw (add-one i) (drop-cons rs i [] l)

  -- where the records from this one on end is told by the first of them
  pub records_wrong : (k : Refusal) → size_from at (record_bits (get_or rs i []) at) ≡ Err k → size_from at (bits_from (drop i rs) at) ≡ Err k
  records_wrong k e = rw first-record (on_wrong at k _ (record_bits (get_or rs i []) at) e)

  pub records-ends : (e : ℕ) → size_from at (record_bits (get_or rs i []) at) ≡ Ok e → size_from at (bits_from (drop i rs) at) ≡ size_from e (bits_from (drop (i + 1) rs) e)
  records-ends e q = rw first-record (on-ends (drop (i + 1) rs) at e (record_bits (get_or rs i []) at) q)

-- no record is left
pub records_over : (rs : List (List ℕ)) (i at : ℕ) → length rs ≤ i → size_from at (bits_from (drop i rs) at) ≡ Ok at
records_over rs i at h =
    let e : at + 0 ≡ at = omega arith in
    rw (drop_of_length-le rs {i = i} h) (ap Ok e)

-- ---- the records of a list of bytes

record_front : (l : List ℕ) (at : ℕ) → record_bits (take 16 l) at ≡ record_bits l at
record_front l at =
    let t : (i : ℕ) → i < 16 → get_or (take 16 l) i 0 ≡ get_or l i 0 = λ i h. get_or-take 16 l i 0 h in
    rw (
      t 0 (lit< tt),
      t 1 (lit< tt),
      t 2 (lit< tt),
      t 3 (lit< tt),
      t 4 (lit< tt),
      t 5 (lit< tt),
      t 6 (lit< tt),
      t 7 (lit< tt),
      t 8 (lit< tt),
      t 9 (lit< tt),
      t 10 (lit< tt),
      t 11 (lit< tt),
      t 12 (lit< tt),
      t 13 (lit< tt),
      t 14 (lit< tt),
      t 15 (lit< tt),
    )

pub chunk-bits : (n : ℕ) (l : List ℕ) (at : ℕ) → bits_from (first_chunks 16 n l) at ≡ records_bits n l at
chunk-bits zero l at = refl
chunk-bits (suc n) l at = rw (record_front l at) (go (record_bits l at) (λ p. chunk-bits n (drop 16 l) p))
  where
    go : (r : Making) → ((p : ℕ) → bits_from (first_chunks 16 n (drop 16 l)) p ≡ records_bits n (drop 16 l) p)
        → on (λ (bs : List ℕ). on (λ (cs : List ℕ). Made (bs ++ cs)) (bits_from (first_chunks 16 n (drop 16 l)) (at + length bs))) r
        ≡ on (λ (bs : List ℕ). on (λ (cs : List ℕ). Made (bs ++ cs)) (records_bits n (drop 16 l) (at + length bs))) r
    go (Made bs) same = ap (on (λ (cs : List ℕ). Made (bs ++ cs))) (same (at + length bs))
    go (No k) same = refl
