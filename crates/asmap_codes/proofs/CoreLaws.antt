-- Core's DecodeBits reads what our code says, over least value and sizes; so a map's bytes are Core's file, and Core's check and
-- Interpret on its own decoder say what ours say (demand 2).
-- Assumes nothing.
use mathlib.Core.Path.{◌≡◌, ◌∙◌, refl, sym, ap}
use mathlib.Core.Bool.{false, ◌&&◌, cond}
use mathlib.Core.List.{List, [], ◌∷◌}
use Prim.Native.Nat.{ℕ, zero, suc, ◌+◌, ◌-◌, ◌*◌, ◌^◌, ◌≤◌, ◌<◌}
use native.Mathlib.Numerals.{add-one}
use native.Mathlib.Decide.{dec_lt, dec_le}
use native.Mathlib.Omega.{arith}
use borrow.Author.Tests.{eq-eqb, ne_eqb, le-leb, lt-leb, lt-ltb, le-ltb}
use lib.Dec.{eqb, leb, ltb}
use lib.ListN.{length, get_or, take, drop, drop_of_length-le, length-drop}
use lib.Seq.{length-take-le}
use Rattle.asmap_program.specs.Check.{accepted, check}
use Rattle.asmap_program.specs.Walk.{walk}
use Rattle.asmap_program.specs.Core.{Read, INVALID, Reads, Joined, decode_of, no_ones, core_tail, core_check, Number, core_interpret}
use Rattle.asmap_program.proofs.CoreCheck.{core-verdict}
use Rattle.asmap_program.proofs.CoreWalk.{core-number}
use Rattle.asmap_codes.specs.Bits.{map_bits, number, all_zero}
use Rattle.asmap_codes.specs.Row.{Row, type_row, asn_row, match_row, jump_row, operand_row, Fit}
use Rattle.asmap_codes.specs.Code.{tail, code, code_at, read_code}
use Rattle.asmap_codes.specs.Instruction.{with_operand, with_opcode, fetch_at, padded_from, map_of}
use Rattle.asmap_codes.specs.Core.{mantissa, decode_bits, Agrees, SameRead, CoreReads, file_of}
use Rattle.asmap_codes.proofs.BitLaws.{AllBits, bits-map, length-map_bits}
use Rattle.asmap_codes.proofs.RowLaws.{type_fit, operand_fit}
use Rattle.asmap_codes.proofs.CodeLaws.{heads}
use Rattle.asmap_codes.proofs.Inside.{value_at, read_at, read_cut, long_operand}
use Rattle.asmap_codes.proofs.MapLaws.{laws}
use Rattle.asmap_program.specs.Verdict.{Accepted}
use Rattle.asmap_codes.specs.Reading.{Code, Cut, Value}
use Rattle.refusals.specs.declared.Fault.{Fault}
use Rattle.std.specs.Prelude.{Result, Option}

module _ (B : List ℕ) (all : AllBits B) where
  -- at the end of the file
  mantissa_end : (n v pos : ℕ) → pos ≤ length B → length B < pos + n → (mantissa B n v pos).value ≡ INVALID
  unfolding mantissa
  mantissa_end zero v pos h k = absurd (omega arith)
  mantissa_end (suc n) v pos h k = go (dec_lt pos (length B)) (λ l. mantissa_end n (v + get_or B pos 0 * 2 ^ n) (suc pos) l (omega arith))
    where
      go : Dec (pos < length B) → (suc pos ≤ length B → (mantissa B n (v + get_or B pos 0 * 2 ^ n) (suc pos)).value ≡ INVALID)
          → (mantissa B (suc n) v pos).value ≡ INVALID
      go (yes l) ih = rw (ne_eqb pos (length B) (omega arith)) (ih l)
      go (no l) ih = rw (eq-eqb pos (length B) (omega arith))

  mantissa-reads : (n v pos : ℕ) → pos + n ≤ length B → mantissa B n v pos ≡ record { value = v + number (take n (drop pos B)); pos = pos + n }
  unfolding mantissa
  mantissa-reads zero v pos h =
      let e : v + 0 ≡ v = omega arith in
      let q : pos + 0 ≡ pos = omega arith in
      rw (e, q)
  mantissa-reads (suc n) v pos h =
      let l : length (take n (drop (pos + 1) B)) ≡ n = length-take-le n (drop (pos + 1) B) (omega (arith, length-drop (pos + 1) B)) in
      let s : suc pos ≡ pos + 1 = omega arith in
      let e : v + get_or B pos 0 * 2 ^ n + number (take n (drop (pos + 1) B)) ≡ v + (get_or B pos 0 * 2 ^ n + number (take n (drop (pos + 1) B))) = omega arith in
      let q : pos + 1 + n ≡ pos + suc n = omega arith in
      rw (ne_eqb pos (length B) (omega arith), s, mantissa-reads n (v + get_or B pos 0 * 2 ^ n) (pos + 1) (omega arith), heads B pos (omega arith), l, e, q)

  mantissa-agrees : (s v pos : ℕ) → pos ≤ length B → Agrees (tail s v pos (drop pos B)) (mantissa B s v pos)
  mantissa-agrees s v pos h = go (dec_le s (length (drop pos B)))
    where
      go : Dec (s ≤ length (drop pos B)) → Agrees (tail s v pos (drop pos B)) (mantissa B s v pos)
      go (yes l) = rw (le-leb s (length (drop pos B)) l) (mantissa-reads s v pos (omega (arith, length-drop pos B)))
      go (no l) = rw (lt-leb s (length (drop pos B)) (omega arith)) (mantissa_end s v pos h (omega (arith, length-drop pos B)))

  end-agrees : (s t : ℕ) (ss : List ℕ) (v pos : ℕ) → length B ≡ pos → Agrees (code (s ∷ t ∷ ss) v pos (drop pos B)) (decode_bits B (s ∷ t ∷ ss) v pos)
  unfolding decode_bits
  end-agrees s t ss v pos h = rw (drop_of_length-le B {i = pos} (omega arith), eq-eqb pos (length B) (sym h)) refl

  stop-agrees : (s t : ℕ) (ss : List ℕ) (v pos : ℕ) → pos < length B → get_or B pos 0 ≡ 0 → Agrees (code (s ∷ t ∷ ss) v pos (drop pos B)) (decode_bits B (s ∷ t ∷ ss) v pos)
  unfolding decode_bits
  stop-agrees s t ss v pos h e =
      let q : suc pos ≡ pos + 1 = omega arith in
      rw (heads B pos h, ne_eqb pos (length B) (omega arith), e, q) (mantissa-agrees s v (pos + 1) (omega arith))

  more-agrees : (s t : ℕ) (ss : List ℕ) (v pos : ℕ) → pos < length B → get_or B pos 0 ≡ 1
      → Agrees (code (t ∷ ss) (v + 2 ^ s) (pos + 1) (drop (pos + 1) B)) (decode_bits B (t ∷ ss) (v + 2 ^ s) (pos + 1))
      → Agrees (code (s ∷ t ∷ ss) v pos (drop pos B)) (decode_bits B (s ∷ t ∷ ss) v pos)
  unfolding decode_bits
  more-agrees s t ss v pos h e r =
      let q : suc pos ≡ pos + 1 = omega arith in
      rw (heads B pos h, ne_eqb pos (length B) (omega arith), e, q) r

  decode-agrees : (ss : List ℕ) (v pos : ℕ) → pos ≤ length B → Agrees (code ss v pos (drop pos B)) (decode_bits B ss v pos)
  unfolding decode_bits
  decode-agrees [] v pos h = refl
  decode-agrees (s ∷ []) v pos h = mantissa-agrees s v pos h
  decode-agrees (s ∷ t ∷ ss) v pos h = go (dec_lt pos (length B)) (dec_lt (get_or B pos 0) 1) (λ l. decode-agrees (t ∷ ss) (v + 2 ^ s) (pos + 1) l)
    where
      go : Dec (pos < length B) → Dec (get_or B pos 0 < 1)
          → (pos + 1 ≤ length B → Agrees (code (t ∷ ss) (v + 2 ^ s) (pos + 1) (drop (pos + 1) B)) (decode_bits B (t ∷ ss) (v + 2 ^ s) (pos + 1)))
          → Agrees (code (s ∷ t ∷ ss) v pos (drop pos B)) (decode_bits B (s ∷ t ∷ ss) v pos)
      go (no l) z ih = end-agrees s t ss v pos (omega arith)
      go (yes l) (yes z) ih = stop-agrees s t ss v pos l (omega arith)
      go (yes l) (no z) ih = more-agrees s t ss v pos l (omega (arith, all pos)) (ih (omega arith))

-- ---- a map's bytes as Core's file

module _ (m : List ℕ) where
  -- DecodeBits is our code, over every row, all bytes and every start up to the map's end; at the end itself both have none.
  -- Core calls it at no bitpos past endpos: there its test for the end would not meet.
  pub decode-bits_is_core : (row : Row) (p : ℕ) → p ≤ 8 * length m → Agrees (code_at m p row) (decode_bits (map_bits m) row.sizes row.least p)
  decode-bits_is_core row p h = decode-agrees (map_bits m) (bits-map m) row.sizes row.least p (omega (arith, length-map_bits m))

  -- and INVALID tells exactly the cut codes: it is no value of a row
  pub invalid_is-cut : (row : Row) → Fit row → (p : ℕ) → p ≤ 8 * length m → (decode_bits (map_bits m) row.sizes row.least p).value ≡ INVALID → code_at m p row ≡ Cut
  invalid_is-cut row f p h e = go (code_at m p row) refl (decode-bits_is_core row p h)
    where
      go : (c : Option Code) → code_at m p row ≡ c → Agrees c (decode_bits (map_bits m) row.sizes row.least p) → c ≡ Cut
      go Cut q a = refl
      go (Value v n) q a = absurd (omega (arith, (value_at m p row v n f.many q).below, f.small, ap (λ (r : Read). r.value) a))

  -- what a call that reads a code of the row hands back
  read_is_core : (row : Row) → Fit row → (p : ℕ) → CoreReads m p (read_code m p row) (decode_bits (map_bits m) row.sizes row.least p)
  read_is_core row f p h k = go (code_at m p row) refl (decode-bits_is_core row p k)
    where
      go : (c : Option Code) → code_at m p row ≡ c → Agrees c (decode_bits (map_bits m) row.sizes row.least p)
          → SameRead (read_code m p row) (decode_bits (map_bits m) row.sizes row.least p)
      go Cut q a = rw (read_cut m p row h q) a
      go (Value v n) q a = rw (read_at m p row h v n q) (a, omega (arith, (value_at m p row v n f.many q).below, f.small))

  -- the same for each of Core's four decoders, of a call's answer r
  module _ (p : ℕ) (r : Result Code Fault) where
    pub type_is_core : r ≡ read_code m p type_row → CoreReads m p r ((file_of m).decode_type p)
    unfolding file_of
    type_is_core e = rw e (read_is_core type_row type_fit p)

    pub asn_is_core : r ≡ read_code m p asn_row → CoreReads m p r ((file_of m).decode_asn p)
    unfolding file_of
    asn_is_core e = rw e (read_is_core asn_row (operand_fit 0) p)

    pub match_is_core : r ≡ read_code m p match_row → CoreReads m p r ((file_of m).decode_match p)
    unfolding file_of
    match_is_core e = rw e (read_is_core match_row (operand_fit 2) p)

    pub jump_is_core : r ≡ read_code m p jump_row → CoreReads m p r ((file_of m).decode_jump p)
    unfolding file_of
    jump_is_core e = rw e (read_is_core jump_row (operand_fit 1) p)

  operand_agrees : (op q : ℕ) → q ≤ 8 * length m → Agrees (code_at m q (operand_row op)) (decode_of (file_of m) op q)
  unfolding file_of
  operand_agrees zero q h = decode-bits_is_core (operand_row 0) q h
  operand_agrees (suc zero) q h = decode-bits_is_core (operand_row 1) q h
  operand_agrees (suc (suc zero)) q h = decode-bits_is_core (operand_row 2) q h
  operand_agrees (suc (suc (suc n))) q h = decode-bits_is_core (operand_row 3) q h

  reads_operand : (p op q : ℕ) → p < q → op < 4 → (file_of m).decode_type p ≡ record { value = op; pos = q }
      → (c : Option Code) → code_at m q (operand_row op) ≡ c → Agrees c (decode_of (file_of m) op q) → Reads (file_of m) p (with_operand p op c)
  reads_operand p op q h k t Cut e a = (q, t, k, a)
  reads_operand p op q h k t (Value v n) e a =
      let x = value_at m q (operand_row op) v n (long_operand op) e in
      let z : p + (n - p) ≡ n = omega (arith, x.past) in
      (q, t, rw z a, omega (arith, x.below, (operand_fit op).small))

  reads_opcode : (p : ℕ) (c : Option Code) → code_at m p type_row ≡ c → Agrees c ((file_of m).decode_type p) → Reads (file_of m) p (with_opcode m p c)
  reads_opcode p Cut e a = a
  reads_opcode p (Value op q) e a =
      let x = value_at m p type_row op q type_fit.many e in
      reads_operand p op q x.past x.below a (code_at m q (operand_row op)) refl (operand_agrees op q x.inside)

  reads_at : (p : ℕ) → p ≤ 8 * length m → Reads (file_of m) p (fetch_at m p)
  unfolding fetch_at file_of
  reads_at p h = reads_opcode p (code_at m p type_row) refl (decode-bits_is_core type_row p h)

  no_ones_lem : (n p : ℕ) → p + n ≡ 8 * length m → all_zero (drop p (map_bits m)) ≡ no_ones (file_of m) n p
  unfolding no_ones file_of
  no_ones_lem zero p h = rw (drop_of_length-le (map_bits m) {i = p} (omega (arith, length-map_bits m)))
  no_ones_lem (suc n) p h =
      rw (heads (map_bits m) p (omega (arith, length-map_bits m)))
      (go (get_or (map_bits m) p 0) (bits-map m p) (rw (← add-one p) at (no_ones_lem n (suc p) (omega arith))))
    where
      go : (b : ℕ) → b < 2 → all_zero (drop (p + 1) (map_bits m)) ≡ no_ones (file_of m) n (p + 1)
          → all_zero (b ∷ drop (p + 1) (map_bits m)) ≡ cond (eqb b 1) false (no_ones (file_of m) n (suc p))
      go zero l ih = ih ∙ ap (λ (k : ℕ). no_ones (file_of m) n k) (add-one p)
      go (suc zero) l ih = refl
      go (suc (suc b)) l ih = absurd (omega arith)

  same_tail : (p : ℕ) → p ≤ 8 * length m → padded_from m p ≡ core_tail (file_of m) p
  unfolding padded_from core_tail file_of no_ones
  same_tail p h =
      let e : length (map_bits m) ≡ 8 * length m = length-map_bits m in
      rw (e, no_ones_lem (8 * length m - p) p (omega arith)) (go (dec_le (8 * length m - p) 7))
    where
      go : Dec (8 * length m - p ≤ 7) → (leb (8 * length m - p) 7 && no_ones (file_of m) (8 * length m - p) p) ≡ cond (ltb 7 (8 * length m - p)) false (no_ones (file_of m) (8 * length m - p) p)
      go (yes l) = rw (le-leb (8 * length m - p) 7 l, le-ltb 7 (8 * length m - p) l)
      go (no l) = rw (lt-leb (8 * length m - p) 7 (omega arith), lt-ltb 7 (8 * length m - p) (omega arith))

  pub joined : Joined (map_of m) (file_of m)
  unfolding map_of file_of
  joined = record { ends = length-map_bits m; fetched = λ p h. reads_at p h; tail = λ p h. same_tail p h }

  -- Core's verdict on the bytes is ours
  pub verdict_of-bytes : (w : ℕ) → core_check (file_of m) w ≡ accepted (check (map_of m) w)
  verdict_of-bytes w = core-verdict (map_of m) (file_of m) joined (laws m) w

  -- on an accepted map Core answers the defined walk's number, and so never leaves its loop
  pub number_of-bytes : (w c d : ℕ) → check (map_of m) w ≡ Accepted c d → (a : ℕ → ℕ) → core_interpret a w (file_of m) ≡ Number (walk a (map_of m) w).number
  number_of-bytes w c d h a = core-number (map_of m) (file_of m) joined (laws m) w c d h a
