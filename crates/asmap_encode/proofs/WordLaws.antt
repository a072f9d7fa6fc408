-- Laws of bits in a word: a word above another, what a word holds when bits were put, and the word of a code by its parts.
-- Assumes nothing.
use mathlib.Core.Path.{◌≡◌, ◌∙◌, sym, ap, ap₂}
use Prim.Native.Nat.{ℕ, zero, suc, ◌+◌, ◌-◌, ◌*◌, ◌%◌, ◌^◌, ◌≤◌, ◌<◌}
use mathlib.Core.List.{List, [], ◌∷◌}
use native.Mathlib.Nat.{pow-suc, pow-succ', mul-le-mul_right, suc-mul, mul-zero, mul_assoc, mul_comm, mul-add}
use lib.ListN.{length}
use Rattle.asmap_codes.specs.Bits.{high, word}
use Rattle.asmap_codes.specs.Row.{Row}
use Rattle.asmap_codes.specs.Encode.{encode_of}
use Rattle.asmap_codes.proofs.RoundTrip.{length_high}
use Rattle.asmap_codes.specs.models.Grown.{stops}
use Rattle.asmap_codes.specs.models.Reverse.{rev}
use Rattle.asmap_code_parts.specs.models.Parts.{ones_then, zeros_then, InRow, CodedAs}
use Rattle.asmap_encode.specs.models.Words.{Shortened, number_of, after, written_as}
use Rattle.asmap_encode.specs.Write.{put, puts, write_after}
use Rattle.asmap_code_parts.specs.declared.Parts.{Parts}
use Rattle.asmap_encode.specs.declared.Word.{Word}
use native.Mathlib.Numerals.{add-one}
use native.Mathlib.Omega.{arith}
use lib.Pow.{pow_pos, pow-add, pow_mono, shl_exact}
use Rattle.asmap_codes.proofs.GrownLaws.{stops_fit}
use Rattle.asmap_codes.proofs.ReverseLaws.{rev_lt}
use Rattle.asmap_code_parts.specs.models.Coded.{In, Out}
use Rattle.std.specs.Prelude.{Ok, Option}

-- a word of k bits above n bits, in 64
pub shifted : (w k n : ℕ) → w < 2 ^ k → n + k ≤ 64 → w * 2 ^ n % 2 ^ 64 ≡ w * 2 ^ n
shifted w k n h l = shl_exact k n 64 h (omega arith)

pub window_lt : (a n w k : ℕ) → a < 2 ^ n → w < 2 ^ k → a + w * 2 ^ n < 2 ^ (n + k)
window_lt a n w k h l =
    rw (pow-add 2 n k) (omega (arith, mul-le-mul_right {m = suc w} {n = 2 ^ k} (2 ^ n) l, suc-mul w (2 ^ n), mul_comm (2 ^ k) (2 ^ n)))

pub window-fits : (a n w k : ℕ) → a < 2 ^ n → w < 2 ^ k → n + k ≤ 64 → a + w * 2 ^ n < 2 ^ 64
window-fits a n w k h l f = omega (arith, window_lt a n w k h l, pow_mono {i = n + k} {j = 64} f)

-- what the writer's word holds
pub puts_word : (w : Word) (l : List ℕ) → ((puts w l).bits ≡ w.bits + 2 ^ w.len * word l) × ((puts w l).len ≡ w.len + length l)
puts_word w [] = (omega (arith, mul-zero (2 ^ w.len)), omega arith)
puts_word w (b ∷ bs) =
    let r = puts_word (put w b) bs in
    let e : 2 ^ (w.len + 1) * word bs ≡ 2 ^ w.len * (2 * word bs) = rw (add-one w.len, pow-suc 2 w.len) (mul_assoc (2 ^ w.len) 2 (word bs)) in
    (omega (arith, r.0, e, mul-add (2 ^ w.len) b (2 * word bs), mul_comm (2 ^ w.len) b), omega (arith, r.1))

-- ---- the word of a code, by its parts

double : (n w : ℕ) → 2 ^ suc n * w ≡ 2 * (2 ^ n * w)
double n w = rw (pow-succ' 2 n) (mul_assoc 2 (2 ^ n) w)

word_ones : (n : ℕ) (l : List ℕ) → (word (ones_then n l) ≡ 2 ^ n - 1 + 2 ^ n * word l) × (length (ones_then n l) ≡ n + length l)
word_ones zero l = (omega arith, omega arith)
word_ones (suc n) l =
    let r = word_ones n l in
    (omega (arith, r.0, double n (word l), pow-succ' 2 n, pow_pos n), omega (arith, r.1))

word_zeros : (n : ℕ) (l : List ℕ) → (word (zeros_then n l) ≡ 2 ^ n * word l) × (length (zeros_then n l) ≡ n + length l)
word_zeros zero l = (omega arith, omega arith)
word_zeros (suc n) l =
    let r = word_zeros n l in
    (omega (arith, r.0, double n (word l)), omega (arith, r.1))

-- the number of a code's parts has as many bits as the parts say
pub number_lt : (pre : ℕ) (p : Parts) → p.ones ≤ pre → number_of pre p < 2 ^ (pre + p.size)
number_lt pre p h =
    let l = pow_mono {i = p.ones} {j = pre} h in
    window_lt (2 ^ p.ones - 1) pre (rev p.size p.rest) p.size (omega (arith, l, pow_pos p.ones)) (rev_lt p.size p.rest)

module _ (row : Row) (v pre : ℕ) (p : Parts) (r : InRow row v pre p) where
  code-word : (word (encode_of row v) ≡ number_of pre p) × (length (encode_of row v) ≡ pre + p.size)
  code-word =
      let h = r.parts in
      let z = stops p.ones (length row.sizes) in
      let l = high p.size p.rest in
      let o = word_ones p.ones (zeros_then z l) in
      let s = word_zeros z l in
      let m : 2 ^ p.ones * (2 ^ z * word l) ≡ word l * 2 ^ pre = sym (mul_assoc (2 ^ p.ones) (2 ^ z) (word l)) ∙ ap (λ (i : ℕ). i * word l) (sym (pow-add 2 p.ones z)) ∙ mul_comm (2 ^ (p.ones + z)) (word l) ∙ ap (λ (i : ℕ). word l * 2 ^ i) (sym r.prefix) in (
        ap word h.code ∙ o.0 ∙ ap (λ (i : ℕ). 2 ^ p.ones - 1 + i) (ap (λ (i : ℕ). 2 ^ p.ones * i) s.0 ∙ m),
        ap length h.code ∙ omega (arith, o.1, s.1, r.prefix, length_high p.size p.rest),
      )

  pub code-length : length (encode_of row v) ≡ pre + p.size
  code-length = code-word.1

  -- the code after the bits of a word
  code_after : (w : Word) → after w pre p ≡ puts w (encode_of row v)
  code_after w =
      let c = code-word in
      let q = puts_word w (encode_of row v) in
      let b : w.bits + number_of pre p * 2 ^ w.len ≡ (puts w (encode_of row v)).bits = omega (arith, q.0, ap (λ (i : ℕ). 2 ^ w.len * i) c.0, mul_comm (2 ^ w.len) (number_of pre p)) in
      let l : w.len + pre + p.size ≡ (puts w (encode_of row v)).len = omega (arith, q.1, c.1) in
      ap₂ (λ (i j : ℕ). record { bits = i; len = j }) b l

-- what was found of a value of a row fits a word, and is written as the row's code
pub coded_short : (row : Row) (v : ℕ) (c : Option (ℕ × Parts)) → CodedAs row v c → Shortened c
coded_short row v (In pre p) r =
    let h = r.parts in
    let s = stops_fit p.ones (length row.sizes) h.inside in
    record { ones = omega (arith, r.prefix); prefix = omega (arith, r.prefix, r.few, s); size = h.size; small = h.small }
coded_short row v Out r = tt

pub coded_written : (w : Word) (row : Row) (v : ℕ) (c : Option (ℕ × Parts)) → CodedAs row v c → written_as w c ≡ write_after w row v
coded_written w row v (In pre p) r = rw r.ranged (ap Ok (code_after row v pre p r w))
coded_written w row v Out r = rw r
