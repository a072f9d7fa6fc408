-- Laws of pack's second loop: what the output will hold in the end stays the same, record by record. Assumes nothing.
use mathlib.Core.Path.{◌≡◌, ◌∙◌, refl, sym, ap, subst}
use mathlib.Core.Bool.{true, ◌&&◌}
use mathlib.Core.List.{List, [], ◌∷◌, ◌++◌}
use Prim.Native.Nat.{ℕ, ◌+◌, ◌*◌, ◌≤◌, ◌<◌}
use native.Mathlib.Omega.{arith}
use lib.ListN.{length, get_or, drop, drop_of_length-le}
use lib.Seq.{sets}
use Rattle.asmap_codes.specs.Row.{type_row, operand_row, in_range}
use Rattle.asmap_codes.specs.Encode.{instruction_bits}
use Rattle.byte_numbers.specs.Numbers.{number4}
use Rattle.asmap_bit_writer.specs.Bytes.{bytes_of}
use Rattle.asmap_records.specs.Output.{Making, Made, No, on}
use Rattle.asmap_records.specs.Pack.{record_bits}
use Rattle.asmap_records.proofs.OutputLaws.{made_same}
use Rattle.asmap_records.proofs.PackLaws.{record_right}
use Rattle.asmap_pack.specs.models.Size.{bits_in}
use Rattle.asmap_pack.specs.models.Records.{bits_from}
use Rattle.asmap_bit_writer.specs.models.Stream.{from, stream, Moved}
use Rattle.asmap_bit_writer.proofs.ToCome.{ToCome, all_to_come, pushed}
use Rattle.asmap_bit_writer.specs.declared.BitWriter.{BitWriter}
use Rattle.asmap_pack.proofs.SizeLaws.{first-record}

-- records that give bits: the first one's, and those of the rest
record Split (r : List ℕ) (rs : List (List ℕ)) (at : ℕ) (all : List ℕ) : Type 0 where
  first : List ℕ
  rest : List ℕ
  here : record_bits r at ≡ Made first
  after : bits_from rs (at + length first) ≡ Made rest
  both : all ≡ first ++ rest

module _ (r : List ℕ) (rs : List (List ℕ)) (at : ℕ) (all : List ℕ) where
  split_rest : (bs : List ℕ) (q : Making) → record_bits r at ≡ Made bs → bits_from rs (at + length bs) ≡ q → on (λ (cs : List ℕ). Made (bs ++ cs)) q ≡ Made all → Split r rs at all
  split_rest bs (Made cs) e f h = record { first = bs; rest = cs; here = e; after = f; both = cc }
  split_rest bs (No k) e f h = let z : ◌≡◌ {A = ℕ} 0 1 = cc in absurd (omega arith)

  split_first : (m : Making) → record_bits r at ≡ m → on (λ (bs : List ℕ). on (λ (cs : List ℕ). Made (bs ++ cs)) (bits_from rs (at + length bs))) m ≡ Made all → Split r rs at all
  split_first (Made bs) e h = split_rest bs (bits_from rs (at + length bs)) e refl h
  split_first (No k) e h = let z : ◌≡◌ {A = ℕ} 0 1 = cc in absurd (omega arith)

  split : bits_from (r ∷ rs) at ≡ Made all → Split r rs at all
  split h = split_first (record_bits r at) refl h

-- what the output is to hold
abbrev goal : List (List ℕ) → List ℕ → List ℕ
goal rs out₀ = sets out₀ 0 (bytes_of (bits_in (bits_from rs 0)))

-- where the loop stands: the bits of the records from this one on are still to come
pub record Writing (rs : List (List ℕ)) (out₀ out : List ℕ) (i : ℕ) (w : BitWriter) : Type 0 where
  pub rest : List ℕ
  pub made : bits_from (drop i rs) (8 * w.place + w.held) ≡ Made rest
  pub come : ToCome (goal rs out₀) out₀ out w rest

pub writing_start : (rs : List (List ℕ)) (out bs : List ℕ) (w : BitWriter) → w ≡ from 0 → bits_from rs 0 ≡ Made bs → length bs ≤ 8 * length out → Writing rs out out 0 w
writing_start rs out bs w z e h =
    let c = all_to_come out bs w z h in
    let g : goal rs out ≡ sets out 0 (bytes_of bs) = ap (λ (r : Making). sets out 0 (bytes_of (bits_in r))) e in
    record { rest = bs; made = rw z e; come = subst (λ (x : List ℕ). ToCome x out out w bs) (sym g) c }

-- the record number i, in a turn
pub record Turn (rs : List (List ℕ)) (out₀ out : List ℕ) (i : ℕ) (w : BitWriter) (op v : ℕ) : Type 0 where
  pub more : List ℕ
  pub ranged : (in_range type_row op && in_range (operand_row op) v) ≡ true
  pub after : bits_from (drop (i + 1) rs) (8 * w.place + w.held + length (instruction_bits op v)) ≡ Made more
  pub come : ToCome (goal rs out₀) out₀ out w (instruction_bits op v ++ more)

pub writing_turn : (rs : List (List ℕ)) (out₀ out : List ℕ) (i : ℕ) (w : BitWriter) → i < length rs → Writing rs out₀ out i w
    → Turn rs out₀ out i w (get_or (get_or rs i []) 0 0) (number4 (get_or rs i []) 4)
writing_turn rs out₀ out i w l t =
    let at = 8 * w.place + w.held in
    let r = get_or rs i [] in
    let e : bits_from (r ∷ drop (i + 1) rs) at ≡ Made t.rest = rw (first-record rs i at l) at t.made in
    let s = split r (drop (i + 1) rs) at t.rest e in
    let op = get_or r 0 0 in
    let v = number4 r 4 in
    let q = record_right r at s.first s.here in
    let b : t.rest ≡ instruction_bits op v ++ s.rest = s.both ∙ ap (λ (y : List ℕ). y ++ s.rest) q.bits in
    record {
      more = s.rest;
      ranged = q.range;
      after = subst (λ (y : List ℕ). bits_from (drop (i + 1) rs) (at + length y) ≡ Made s.rest) q.bits s.after;
      come = subst (ToCome (goal rs out₀) out₀ out w) b t.come;
    }

-- when the record's instruction was pushed, the rest is still to come
pub writing_on : (rs : List (List ℕ)) (out₀ out : List ℕ) (i : ℕ) (w : BitWriter) (op v : ℕ) → Turn rs out₀ out i w op v
    → (out' : List ℕ) (w' : BitWriter) → Moved out w (instruction_bits op v) out' w' → Writing rs out₀ out' (i + 1) w'
writing_on rs out₀ out i w op v t out' w' x = record { rest = t.more; made = rw x.placed t.after; come = pushed t.come x }

-- all records are read
module _ (rs : List (List ℕ)) (out₀ out : List ℕ) (i : ℕ) (w : BitWriter) (t : Writing rs out₀ out i w) (h : length rs ≤ i) where
  nothing_left : t.rest ≡ []
  nothing_left = made_same (rw (drop_of_length-le rs {i = i} h) at t.made)

  pub stream_over : sets out₀ 0 (bytes_of (bits_in (bits_from rs 0))) ≡ stream out w []
  stream_over = t.come.onward ∙ ap (stream out w) nothing_left
