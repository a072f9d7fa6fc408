-- Laws of a load's bits: its instructions are in range, how long they are, and a load of one pair more. Assumes nothing.
use mathlib.Core.Path.{◌≡◌, ◌∙◌, refl, sym, ap, subst}
use mathlib.Core.Bool.{Bool, true, false, ◌&&◌}
use mathlib.Core.List.{List, ◌++◌}
use Prim.Native.Nat.{ℕ, zero, suc, ◌+◌, ◌-◌, ◌*◌, ◌%◌, ◌≤◌, ◌<◌}
use native.Mathlib.Decide.{ℕ_discrete}
use native.Mathlib.Omega.{arith}
use borrow.Author.Tests.{le-leb, lt-ltb, le-ltb, eq-eqb, ne_eqb, ltb-false}
use mathlib.Core.Logic.{◌≢◌}
use lib.Dec.{ltb}
use lib.ListN.{length, length-append}
use Rattle.asmap_program.specs.Map.{RETURN, MATCH, DEFAULT}
use Rattle.asmap_codes.specs.Bits.{high}
use Rattle.asmap_codes.specs.Row.{type_row, asn_row, operand_row, in_range}
use Rattle.asmap_codes.specs.Encode.{encode, encode_of, instruction_bits}
use Rattle.asmap_codes.proofs.BitLaws.{AllBits}
use Rattle.asmap_encode.specs.Write.{write_instruction}
use Rattle.asmap_encode.specs.models.Words.{length_written}
use Rattle.asmap_bit_writer.specs.Bytes.{bytes_of}
use Rattle.asmap_bit_writer.specs.declared.BitWriter.{BitWriter}
use Rattle.asmap_bit_writer.proofs.ToCome.{ToCome}
use Rattle.asmap_bit_writer.proofs.InstructionBits.{bits-append, bits_instruction}
use Rattle.asmap_bit_writer.proofs.WrittenLaws.{measured_some, measured_none}
use Rattle.asmap_records.specs.Output.{Made, No, refuse}
use Rattle.load_draws.specs.Draw.{next}
use Rattle.asmap_load.specs.Load.{number_by, match_by, load_bits, load_of}
use Rattle.refusals.specs.declared.Refusal.TheVariants as refusal

-- ---- in range

abbrev pub Ranged : ℕ → ℕ → Type 0
Ranged op v = (in_range type_row op && in_range (operand_row op) v) ≡ true

number_ranged : (d : ℕ) → in_range asn_row (number_by d) ≡ true
number_ranged d = rw (le-leb 1 (number_by d) (omega arith), lt-ltb (number_by d) 33521665 (omega arith))

pub return_ranged : (d : ℕ) → Ranged RETURN (number_by d)
return_ranged d = number_ranged d

pub default_ranged : (d : ℕ) → Ranged DEFAULT (number_by d)
default_ranged d = number_ranged d

pub match_ranged : (d : ℕ) → Ranged MATCH (match_by d)
match_ranged d = rw (le-leb 2 (match_by d) (omega arith), lt-ltb (match_by d) 512 (omega arith))

-- ---- how long

length_high : (n x : ℕ) → length (high n x) ≡ n
length_high zero x = refl
length_high (suc n) x = ap suc (length_high n x)

-- a number up to 65,536 has the first size or the second, 16 bits or 18
short : (x : ℕ) → x < 65536 → length (encode asn_row.sizes x) ≤ 18
short x h = go (ltb x 32768) refl
  where
    go : (b : Bool) → ltb x 32768 ≡ b → length (encode asn_row.sizes x) ≤ 18
    go true e = rw e (omega (arith, length_high 15 x))
    go false e =
        let k = ltb-false x 32768 e in
        rw (e, lt-ltb (x - 32768) 65536 (omega arith)) (omega (arith, length_high 16 (x - 32768)))

number_short : (d : ℕ) → length (encode_of asn_row (number_by d)) ≤ 18
number_short d =
    let e : number_by d - 1 ≡ d % 65536 = omega arith in
    rw e (short (d % 65536) (omega arith))

pub return_short : (d : ℕ) → length (instruction_bits RETURN (number_by d)) ≤ 19
unfolding instruction_bits
return_short d = omega (arith, number_short d, length-append (encode_of type_row RETURN) (encode_of asn_row (number_by d)))

pub default_short : (d : ℕ) → length (instruction_bits DEFAULT (number_by d)) ≤ 21
unfolding instruction_bits
default_short d = omega (arith, number_short d, length-append (encode_of type_row DEFAULT) (encode_of asn_row (number_by d)))

pub match_short : (d : ℕ) → length (instruction_bits MATCH (match_by d)) ≤ 5
unfolding instruction_bits
match_short d = rw (lt-ltb (match_by d - 2) 2 (omega arith)) (omega arith)

-- how many bits are written for an instruction in range
pub measured : (op v n : ℕ) → Ranged op v → n ≡ length_written (write_instruction op v) → n ≡ length (instruction_bits op v)
measured op v n h e = go (ℕ_discrete n 0)
  where
    go : Dec (n ≡ 0) → n ≡ length (instruction_bits op v)
    go (yes z) = let k : true ≡ false = sym h ∙ measured_none op v n e z in let y : ◌≡◌ {A = ℕ} 0 1 = cc in absurd (omega arith)
    go (no z) = (measured_some op v n e z).len

-- ---- the load

-- the first pair of a load, and the rest
pub load_more : (n s : ℕ) → 0 < n
    → load_bits n s ≡ instruction_bits DEFAULT (number_by (next s)) ++ (instruction_bits MATCH (match_by (next (next s))) ++ load_bits (n - 1) (next (next s)))
unfolding load_bits
load_more zero s h = absurd (omega arith)
load_more (suc n) s h = let e : suc n - 1 ≡ n = omega arith in rw e

pub load_last : (n s : ℕ) → n ≡ 0 → load_bits n s ≡ instruction_bits RETURN (number_by (next s))
unfolding load_bits
load_last n s h = rw h

pub length_more : (n s : ℕ) → 0 < n
    → length (load_bits n s) ≡ length (instruction_bits DEFAULT (number_by (next s))) + length (instruction_bits MATCH (match_by (next (next s)))) + length (load_bits (n - 1) (next (next s)))
length_more n s h =
    let a = instruction_bits DEFAULT (number_by (next s)) in
    let b = instruction_bits MATCH (match_by (next (next s))) in
    let c = load_bits (n - 1) (next (next s)) in
    ap length (load_more n s h) ∙ omega (arith, length-append a (b ++ c), length-append b c)

-- at most 26 bits for a pair, and 19 for the RETURN
pub load_short : (n s : ℕ) → length (load_bits n s) ≤ 26 * n + 19
load_short zero s = omega (arith, ap length (load_last 0 s refl), return_short (next s))
load_short (suc n) s =
    let k : suc n - 1 ≡ n = omega arith in
    let e = rw k at (length_more (suc n) s (omega arith)) in
    omega (arith, e, default_short (next s), match_short (next (next s)), load_short n (next (next s)))

pub load-bits : (n s : ℕ) → AllBits (load_bits n s)
unfolding load_bits
load-bits zero s = bits_instruction RETURN (number_by (next s))
load-bits (suc n) s =
    let m = instruction_bits MATCH (match_by (next (next s))) in
    bits-append (instruction_bits DEFAULT (number_by (next s))) (m ++ load_bits n (next (next s))) (bits_instruction DEFAULT (number_by (next s)))
    (bits-append m (load_bits n (next (next s))) (bits_instruction MATCH (match_by (next (next s)))) (load-bits n (next (next s))))

-- ---- refused, or made

pub load_seed : (s n : ℕ) → s ≡ 0 → load_of s n ≡ No refusal.Load
unfolding load_of refuse
load_seed s n h = rw (eq-eqb s 0 h)

pub load_many : (s n : ℕ) → s ≢ 0 → 128 < n → load_of s n ≡ No refusal.Load
unfolding load_of refuse
load_many s n h k = rw (ne_eqb s 0 h, lt-ltb 128 n k)

pub load_made : (s n : ℕ) → s ≢ 0 → n ≤ 128 → load_of s n ≡ Made (bytes_of (load_bits n s))
unfolding load_of refuse
load_made s n h k = rw (ne_eqb s 0 h, le-ltb 128 n k)

-- ---- an operand as the code has it

-- bits still to come, of an operand that is the load's
pub come_as : {goal out₀ out : List ℕ} {w : BitWriter} (op : ℕ) {v v' : ℕ} (rest : List ℕ) → v' ≡ v
    → ToCome goal out₀ out w (instruction_bits op v ++ rest) → ToCome goal out₀ out w (instruction_bits op v' ++ rest)
come_as {goal} {out₀} {out} {w} op rest e t = subst (λ (x : ℕ). ToCome goal out₀ out w (instruction_bits op x ++ rest)) (sym e) t

pub ranged_as : (op : ℕ) {v v' : ℕ} → v' ≡ v → Ranged op v → Ranged op v'
ranged_as op e h = subst (Ranged op) (sym e) h
