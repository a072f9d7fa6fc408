-- Unpack and pack undo each other (document 01, Unpack and pack): an accepted map that is unpacked and packed again is that map, and
-- records that are packed to an accepted map are unpacked as they were. Rests on the codes' round-trip law (Reading). Assumes nothing.
use mathlib.Core.Path.{◌≡◌, ◌∙◌, refl, sym, ap, ap₂, subst}
use mathlib.Core.Bool.{true, ◌&&◌}
use mathlib.Core.List.{List, [], ◌∷◌, ◌++◌, append_assoc}
use Prim.Native.Nat.{ℕ, zero, suc, ◌+◌, ◌-◌, ◌*◌, ◌/◌, ◌%◌, ◌≤◌}
use native.Mathlib.Omega.{arith}
use borrow.Author.Tests.{leb-true, eqb-true, not-false}
use lib.Dec.{leb}
use lib.ListN.{length, get_or, take, drop, replicate, length-append, length-drop, take-append-drop}
use lib.Seq.{drop_at, drop-drop, take-add, length-take-le}
use Rattle.byte_numbers.specs.Numbers.{bytes4, number4}
use Rattle.byte_numbers.proofs.NumberLaws.{AllBytes, bytes_drop, small_bytes, number_of-bytes, four}
use Rattle.asmap_program.specs.declared.Instruction.{Instruction}
use Rattle.asmap_program.specs.Map.{end_of}
use Rattle.asmap_program.specs.Check.{unpacked}
use Rattle.asmap_codes.specs.Bits.{map_bits, all_zero}
use Rattle.asmap_codes.specs.Row.{type_row, operand_row, in_range}
use Rattle.asmap_codes.specs.Encode.{instruction_bits}
use Rattle.asmap_codes.specs.Instruction.{padded_from, map_of}
use Rattle.asmap_codes.proofs.BitLaws.{AllBits, bits-map, bits-take, bits-drop, length-map_bits, length_left}
use Rattle.asmap_check.specs.Check.{check_of}
use Rattle.asmap_records.specs.Record.{record_of, records_of}
use Rattle.asmap_bit_writer.specs.Bytes.{to_bytes, bytes_of}
use Rattle.asmap_records.specs.Output.{Making, Made, No, on}
use Rattle.asmap_records.specs.Pack.{field_bits, record_bits, records_bits, pack_bits, pack_of}
use Rattle.asmap_records.specs.Unpack.{unpack_of}
use Rattle.asmap_bit_writer.proofs.ByteLaws.{word_lt, word_low, map-to_bytes, length-to_bytes}
use Rattle.asmap_records.proofs.RecordLaws.{and_both, length_records, zeros-first}
use Rattle.asmap_records.proofs.OutputLaws.{passed, made_same}
use Rattle.asmap_records.proofs.PackLaws.{all_right, field_made, record_right, Split, records_split, pack_whole}
use Rattle.asmap_bit_writer.proofs.InstructionBits.{bits-append, bits_instruction}
use Rattle.asmap_bit_writer.proofs.ToCome.{ReadBack, read_back}
use Rattle.asmap_records.proofs.Listing.{Listing, none, then, Stop, one_listing, accepted_lists}
use Rattle.asmap_check.proofs.Limit.{accepted_within}
use Rattle.asmap_records.proofs.UnpackLaws.{unpack_as_lem}
use Rattle.asmap_records.proofs.Reading.{instruction, Stands, stands, fetched, padding}
use Rattle.asmap_program.specs.Verdict.{Accepted}
use Rattle.refusals.specs.declared.Refusal.TheVariants as refusal

-- ---- bytes and their bits

-- the bytes of a map's bits are the map
bytes_again : (m : List ℕ) → AllBytes m → to_bytes (length m) (map_bits m) ≡ m
bytes_again [] h = refl
bytes_again (x ∷ xs) h = ap₂ ◌∷◌ (word_low 8 x (h 0)) (bytes_again xs (λ i. h (suc i)))

bytes_made : (n : ℕ) (bs : List ℕ) → AllBits bs → AllBytes (to_bytes n bs)
bytes_made zero bs h i = lib.Dec.lit< tt
bytes_made (suc n) bs h zero = omega (arith, word_lt (take 8 bs) (bits-take 8 bs h), lib.Pow.pow_mono {i = length (take 8 bs)} {j = 8} (omega (arith, lib.ListN.length-take 8 bs)))
bytes_made (suc n) bs h (suc i) = bytes_made n (drop 8 bs) (bits-drop 8 bs h) i

-- bits that are all zero are zeros
zeros : (l : List ℕ) → all_zero l ≡ true → l ≡ replicate (length l) 0
zeros [] h = refl
zeros (zero ∷ l) h = ap (◌∷◌ 0) (zeros l h)
zeros (suc x ∷ l) h = let z : ◌≡◌ {A = ℕ} 0 1 = cc in absurd (omega arith)

-- a map whose bits from q on are fewer than 8 zeros is the bytes of the bits before q
unpadded : (m : List ℕ) (q : ℕ) → AllBytes m → q ≤ 8 * length m → 8 * length m - q ≤ 7 → all_zero (drop q (map_bits m)) ≡ true → bytes_of (take q (map_bits m)) ≡ m
unfolding bytes_of
unpadded m q h k s b =
    let B = map_bits m in
    let n = length m in
    let l : length (take q B) ≡ q = length-take-le q B (omega (arith, length-map_bits m)) in
    let e : (length (take q B) + 7) / 8 ≡ n = omega arith in
    let t = to_bytes n (take q B) in
    let r : map_bits t ≡ take q B ++ replicate (8 * n - length (take q B)) 0 = map-to_bytes n (take q B) (bits-take q B (bits-map m)) (omega arith) in
    let d : length (drop q B) ≡ 8 * n - length (take q B) = omega (arith, length_left m q) in
    let z : drop q B ≡ replicate (8 * n - length (take q B)) 0 = zeros (drop q B) b ∙ ap (λ (j : ℕ). replicate j 0) d in
    let same : map_bits t ≡ B = r ∙ ap (λ (j : List ℕ). take q B ++ j) (sym z) ∙ take-append-drop q B in
    let again : to_bytes (length t) (map_bits t) ≡ t = bytes_again t (bytes_made n (take q B) (bits-take q B (bits-map m))) in
    ap (λ (j : ℕ). to_bytes j (take q B)) e
    ∙ sym again
    ∙ ap₂ to_bytes (length-to_bytes n (take q B)) same
    ∙ bytes_again m h

-- where the check's padding is right
record Padded (m : List ℕ) (q : ℕ) : Type 0 where
  few : 8 * length m - q ≤ 7
  blank : all_zero (drop q (map_bits m)) ≡ true

padded : (m : List ℕ) (q : ℕ) → (map_of m).padded q ≡ true → Padded m q
unfolding map_of padded_from
padded m q e =
    let b = and_both (leb (8 * length m - q) 7) (all_zero (drop q (map_bits m))) e in
    record { few = leb-true (8 * length m - q) 7 b.0; blank = b.1 }

-- nothing stands in the padding
stops : (m : List ℕ) (q : ℕ) → Padded m q → Stop (map_of m) q
unfolding map_of
stops m q p i = padding m q i p.blank (omega (arith, length_left m q, p.few))

-- ---- unpack, then pack

-- the record of an instruction that stands at p, before other records, gives its bits
record_of_lem : (m : List ℕ) (p : ℕ) (i : Instruction) (rest : List ℕ) → length m ≤ 16777216 → p ≤ 8 * length m → Stands m p i
    → record_bits (record_of i ++ rest) p ≡ Made (instruction_bits i.opcode i.operand)
record_of_lem m p i rest s h v =
    let n : length (instruction_bits i.opcode i.operand) ≡ i.size = ap length v.bits ∙ length-take-le i.size (drop p (map_bits m)) (omega (arith, length_left m p, v.inside)) in
    let a = number_of-bytes i.operand v.operand in
    let b = number_of-bytes i.place (omega (arith, v.here)) in
    let c = number_of-bytes i.size (omega (arith, v.inside)) in
    same a b c
    ∙ field_made i.opcode true i.operand i.place i.size p v.ranged
    (all_right i.opcode true i.operand i.place i.size p refl v.here (sym n)) (omega (arith, v.inside))
  where
    same : {b b' c c' d d' : ℕ} → b ≡ b' → c ≡ c' → d ≡ d' → field_bits i.opcode true b c d p ≡ field_bits i.opcode true b' c' d' p
    same q r s = rw (q, r, s)

-- the records of what stands from p to q give the bits from p to q
record Bits (m : List ℕ) (p : ℕ) (is : List Instruction) (q : ℕ) : Type 0 where
  on : p ≤ q
  inside : q ≤ 8 * length m
  made : records_bits (length is) (records_of is) p ≡ Made (take (q - p) (drop p (map_bits m)))

bits_none : (m : List ℕ) (p : ℕ) → p ≤ 8 * length m → Bits m p [] p
bits_none m p h = let e : p - p ≡ 0 = omega arith in record { on = omega arith; inside = h; made = rw e }

bits_then : (m : List ℕ) (p q : ℕ) (i : Instruction) (is : List Instruction) → length m ≤ 16777216 → p ≤ 8 * length m → Stands m p i → Bits m (end_of i) is q → Bits m p (i ∷ is) q
bits_then m p q i is s h v r =
    let B = map_bits m in
    let e : end_of i ≡ p + i.size = ap (λ (k : ℕ). k + i.size) v.here in
    let b = instruction_bits i.opcode i.operand in
    let n : p + length b ≡ end_of i = ap (λ (l : List ℕ). p + length l) v.bits ∙ ap (λ (k : ℕ). p + k) (length-take-le i.size (drop p B) (omega (arith, length_left m p, v.inside))) ∙ sym e in
    let k : q - p ≡ i.size + (q - end_of i) = omega (arith, r.on) in
    let t : b ++ take (q - end_of i) (drop (end_of i) B) ≡ take (q - p) (drop p B)
    = ap₂ ◌++◌ v.bits (ap (λ (j : ℕ). take (q - end_of i) (drop j B)) e ∙ ap (take (q - end_of i)) (sym (drop-drop i.size p B)))
    ∙ sym (take-add i.size (q - end_of i) (drop p B))
    ∙ ap (λ (j : ℕ). take j (drop p B)) (sym k) in
    record {
      on = omega (arith, r.on);
      inside = r.inside;
      made =
          ap (on (λ (bs : List ℕ). on (λ (cs : List ℕ). Made (bs ++ cs)) (records_bits (length is) (records_of is) (p + length bs)))) (record_of_lem m p i (records_of is) s h v)
          ∙ ap (λ (j : ℕ). on (λ (cs : List ℕ). Made (b ++ cs)) (records_bits (length is) (records_of is) j)) n
          ∙ ap (on (λ (cs : List ℕ). Made (b ++ cs))) r.made
          ∙ ap Made t;
    }

listing_bits : (m : List ℕ) {p q : ℕ} {is : List Instruction} → length m ≤ 16777216 → p ≤ 8 * length m → Listing (map_of m) p is q → Bits m p is q
unfolding map_of
listing_bits m s h none = bits_none m _ h
listing_bits m {p} {q} s h (then {i} {is} f l) =
    let v = stands m p i f in
    let g : end_of i ≤ 8 * length m = rw v.here v.inside in
    bits_then m p q i is s h v (listing_bits m s g l)

-- THE FIRST THEOREM: a map of bytes that the check accepts at w address bits, unpacked and packed again, is that map.
pub unpacked_then_packed : (m : List ℕ) (w c d : ℕ) → AllBytes m → check_of m w ≡ Accepted c d → on pack_of (unpack_of m w) ≡ Made m
unpacked_then_packed m w c d h e =
    let s = accepted_within m w c d e in
    let is = unpacked (map_of m) w in
    let rs = records_of is in
    let a = accepted_lists (map_of m) w s.1 in
    let r = listing_bits m s.0 (omega arith) a.all in
    let q = a.end in
    let p = padded m q a.tail in
    let n = length_records is in
    let k : length rs / 16 ≡ length is = omega arith in
    let o : q - 0 ≡ q = omega arith in
    let g : records_bits (length rs / 16) rs 0 ≡ Made (take q (map_bits m))
    = ap (λ (j : ℕ). records_bits j rs 0) k ∙ r.made ∙ ap (λ (j : ℕ). Made (take j (map_bits m))) o in
    ap (on pack_of) (unpack_as_lem m w (Accepted c d) (sym e))
    ∙ pack_whole rs (Made (take q (map_bits m))) (omega arith) g
    ∙ ap Made (unpadded m q h r.inside p.few p.blank)

-- ---- pack, then unpack

-- what packed records are
record Packs (rs m : List ℕ) : Type 0 where
  bits : List ℕ
  whole : length rs % 16 ≡ 0
  made : records_bits (length rs / 16) rs 0 ≡ Made bits
  bytes : m ≡ bytes_of bits

packs : (rs m : List ℕ) → pack_of rs ≡ Made m → Packs rs m
unfolding pack_of pack_bits
packs rs m h = go (pack_bits rs) refl h
  where
    go : (r : Making) → pack_bits rs ≡ r → on (λ (bs : List ℕ). Made (bytes_of bs)) r ≡ Made m → Packs rs m
    go (Made bs) e q =
        let p = passed _ refusal.Record _ bs e in
        record { bits = bs; whole = eqb-true (length rs % 16) 0 (not-false _ p.0); made = p.1; bytes = made_same q }
    go (No n) e q = let z : ◌≡◌ {A = ℕ} 0 1 = cc in absurd (omega arith)

-- instructions whose bits stand one after the other
data Chain : ℕ → List Instruction → List ℕ → Type 0 where
  end : {at : ℕ} → Chain at [] []
  link : {at op v : ℕ} {is : List Instruction} {bs : List ℕ} → (in_range type_row op && in_range (operand_row op) v) ≡ true
      → Chain (at + length (instruction_bits op v)) is bs
      → Chain at (instruction op v at (length (instruction_bits op v)) ∷ is) (instruction_bits op v ++ bs)

chain_bits : {at : ℕ} {is : List Instruction} {bs : List ℕ} → Chain at is bs → AllBits bs
chain_bits end = λ i. lib.Dec.lit< tt
chain_bits (link {op} {v} {bs} r c) = bits-append (instruction_bits op v) bs (bits_instruction op v) (chain_bits c)

-- they are listed in a map that has their bits
chain_listing : (m : List ℕ) {at : ℕ} {is : List Instruction} {bs : List ℕ} (pad : List ℕ) → Chain at is bs → drop at (map_bits m) ≡ bs ++ pad
    → Listing (map_of m) at is (at + length bs)
unfolding map_of
chain_listing m {at} pad end e = let z : at + 0 ≡ at = omega arith in rw z none
chain_listing m {at} pad (link {op} {v} {is} {bs} r c) e =
    let b = instruction_bits op v in
    let q : drop at (map_bits m) ≡ b ++ (bs ++ pad) = e ∙ append_assoc b bs pad in
    let d : drop (at + length b) (map_bits m) ≡ bs ++ pad
    = sym (drop-drop (length b) at (map_bits m)) ∙ ap (drop (length b)) q ∙ drop_at b (bs ++ pad) (length b) refl in
    let n : at + length b + length bs ≡ at + length (b ++ bs) = omega (arith, length-append b bs) in
    then (fetched m at op v (bs ++ pad) r q) (subst (λ (k : ℕ). Listing (map_of m) (at + length b) is k) n (chain_listing m pad c d))

-- a record that gives bits is the record of its instruction
abbrev instruction_at : List ℕ → ℕ → Instruction
instruction_at l at = instruction (get_or l 0 0) (number4 l 4) at (length (instruction_bits (get_or l 0 0) (number4 l 4)))

record_same : (l : List ℕ) (at : ℕ) (bs : List ℕ) → AllBytes l → 16 ≤ length l → record_bits l at ≡ Made bs → record_of (instruction_at l at) ++ drop 16 l ≡ l
record_same l at bs h s e =
    let op = get_or l 0 0 in
    let r = record_right l at bs e in
    let a : bytes4 (number4 l 0) ≡ op ∷ 0 ∷ 0 ∷ 0 ∷ [] = ap bytes4 (zeros-first l r.blank) ∙ small_bytes op (h 0) in
    sym (four l 0 h (omega arith)
    ∙ ap₂ ◌++◌ a (four l 4 h (omega arith)
    ∙ ap (λ (t : List ℕ). bytes4 (number4 l 4) ++ t) (four l 8 h (omega arith)
    ∙ ap₂ ◌++◌ (ap bytes4 r.placed) (four l 12 h (omega arith)
    ∙ ap (λ (n : ℕ). bytes4 n ++ drop 16 l) r.sized))))

-- records that give bits are those of instructions whose bits stand one after the other
record Chained (l : List ℕ) (at : ℕ) (bs : List ℕ) : Type 0 where
  is : List Instruction
  chain : Chain at is bs
  same : records_of is ≡ l

chained_none : (l : List ℕ) (at : ℕ) (bs : List ℕ) → length l ≡ 0 → Made [] ≡ Made bs → Chained l at bs
chained_none [] at bs h e = subst (Chained [] at) (sym (made_same e)) record { is = []; chain = end; same = refl }
chained_none (x ∷ l) at bs h e = absurd (omega arith)

chained_more : (n : ℕ) (l : List ℕ) (at : ℕ) (bs : List ℕ) → AllBytes l → 16 ≤ length l → (s : Split n l at bs)
    → Chained (drop 16 l) (at + length s.first) s.rest → Chained l at bs
chained_more n l at bs h k s c =
    let op = get_or l 0 0 in
    let v = number4 l 4 in
    let r = record_right l at s.first s.here in
    let d : Chain (at + length (instruction_bits op v)) c.is s.rest = subst (λ (y : List ℕ). Chain (at + length y) c.is s.rest) r.bits c.chain in
    let b : instruction_bits op v ++ s.rest ≡ bs = sym (s.both ∙ ap (λ (y : List ℕ). y ++ s.rest) r.bits) in
    record {
      is = instruction_at l at ∷ c.is;
      chain = subst (Chain at (instruction_at l at ∷ c.is)) b (link r.range d);
      same = ap (λ (y : List ℕ). record_of (instruction_at l at) ++ y) c.same ∙ record_same l at s.first h k s.here;
    }

chained : (n : ℕ) (l : List ℕ) (at : ℕ) (bs : List ℕ) → AllBytes l → length l ≡ 16 * n → records_bits n l at ≡ Made bs → Chained l at bs
chained zero l at bs h k e = chained_none l at bs (omega arith) e
chained (suc n) l at bs h k e =
    let s = records_split n l at bs e in
    chained_more n l at bs h (omega arith) s (chained n (drop 16 l) (at + length s.first) s.rest (bytes_drop 16 l h) (omega (arith, length-drop 16 l)) s.after)

-- THE SECOND THEOREM: records of bytes that pack makes a map of, where the check accepts that map at w address bits, are what unpack
-- makes of it.
pub packed_then_unpacked : (rs m : List ℕ) (w count depth : ℕ) → AllBytes rs → pack_of rs ≡ Made m → check_of m w ≡ Accepted count depth → unpack_of m w ≡ Made rs
packed_then_unpacked rs m w count depth h e f =
    let p = packs rs m e in
    let s = accepted_within m w count depth f in
    let bs = p.bits in
    let c = chained (length rs / 16) rs 0 bs h (omega (arith, p.whole)) p.made in
    let r : ReadBack bs m = subst (ReadBack bs) (sym p.bytes) (read_back bs (chain_bits c.chain)) in
    let z : 0 + length bs ≡ length bs = omega arith in
    let l : Listing (map_of m) 0 c.is (length bs) = subst (λ (k : ℕ). Listing (map_of m) 0 c.is k) z (chain_listing m r.pad c.chain r.whole) in
    let stop = stops m (length bs) record { few = r.few; blank = r.blank } in
    let a = accepted_lists (map_of m) w s.1 in
    unpack_as_lem m w (Accepted count depth) (sym f)
    ∙ ap Made (ap records_of (one_listing (map_of m) a.all l (stops m a.end (padded m a.end a.tail)) stop) ∙ c.same)
