-- Where a function stands that pushes bits to a writer, one piece after the other: what the output is to hold in the end, and the bits still to
-- come; and what bytes made of bits read as in the end. Assumes nothing.
use mathlib.Core.Path.{◌≡◌, ◌∙◌, refl, ap}
use mathlib.Core.Bool.{true}
use mathlib.Core.List.{List, ◌++◌}
use Prim.Native.Nat.{ℕ, zero, suc, ◌+◌, ◌-◌, ◌*◌, ◌/◌, ◌≤◌}
use native.Mathlib.Omega.{arith}
use lib.Dec.{lit<}
use lib.ListN.{length, drop, replicate, length-append}
use lib.Seq.{drop_at, sets}
use Rattle.asmap_codes.specs.Bits.{map_bits, all_zero}
use Rattle.asmap_codes.proofs.BitLaws.{AllBits}
use Rattle.asmap_bit_writer.specs.Bytes.{bytes_of}
use Rattle.asmap_bit_writer.specs.models.Stream.{Ready, stream, Moved}
use Rattle.asmap_bit_writer.specs.declared.BitWriter.{BitWriter}
use Rattle.asmap_bit_writer.proofs.ByteLaws.{map-to_bytes, length-bytes_of}

-- ---- bits are pushed

-- goal: what the output is to hold; out₀: the output at the start; rest: the bits still to come, which fit
pub record ToCome (goal out₀ out : List ℕ) (w : BitWriter) (rest : List ℕ) : Type 0 where
  pub onward : goal ≡ stream out w rest
  pub fits : 8 * w.place + w.held + length rest ≤ 8 * length out
  pub ready : Ready w
  pub kept : length out ≡ length out₀

pub all_to_come : (out bits : List ℕ) (w : BitWriter) → w ≡ record { bits = 0; held = 0; place = 0 } → length bits ≤ 8 * length out
    → ToCome (sets out 0 (bytes_of bits)) out out w bits
unfolding stream
all_to_come out bits w z h =
    rw z record { onward = refl; fits = omega arith; ready = record { small = lit< tt; short = lit< tt }; kept = refl }

-- a piece was pushed, and the rest is still to come
pub pushed : {goal out₀ out out' piece rest : List ℕ} {w w' : BitWriter} → ToCome goal out₀ out w (piece ++ rest) → Moved out w piece out' w' → ToCome goal out₀ out' w' rest
pushed {piece} {rest} t x = record {
  onward = t.onward ∙ x.streams rest;
  fits = omega (arith, t.fits, x.placed, x.kept, length-append piece rest);
  ready = x.ready;
  kept = x.kept ∙ t.kept;
}

-- there is room for the next piece
pub room : (piece rest : List ℕ) {goal out₀ out : List ℕ} {w : BitWriter} → ToCome goal out₀ out w (piece ++ rest) → 8 * w.place + w.held + length piece ≤ 8 * length out
room piece rest t = omega (arith, t.fits, length-append piece rest)

-- ---- what the bytes read as

-- the bits, and fewer than 8 zeros behind them
pub record ReadBack (bits m : List ℕ) : Type 0 where
  pub pad : List ℕ
  pub whole : map_bits m ≡ bits ++ pad
  pub few : 8 * length m - length bits ≤ 7
  pub blank : all_zero (drop (length bits) (map_bits m)) ≡ true

all_zeros : (n : ℕ) → all_zero (replicate n 0) ≡ true
all_zeros zero = refl
all_zeros (suc n) = all_zeros n

pub read_back : (bits : List ℕ) → AllBits bits → ReadBack bits (bytes_of bits)
unfolding bytes_of
read_back bits h =
    let n = (length bits + 7) / 8 in
    let k = 8 * n - length bits in
    let e : map_bits (bytes_of bits) ≡ bits ++ replicate k 0 = map-to_bytes n bits h (omega arith) in
    record {
      pad = replicate k 0;
      whole = e;
      few = omega (arith, length-bytes_of bits);
      blank = ap (λ (l : List ℕ). all_zero (drop (length bits) l)) e ∙ ap all_zero (drop_at bits (replicate k 0) (length bits) refl) ∙ all_zeros k;
    }
