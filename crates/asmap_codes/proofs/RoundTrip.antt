-- Reading what was written gives the value and its length, and writing what was read gives the bits read: once, over least
-- value and sizes. How many bits a code has.
-- Assumes nothing.
use mathlib.Core.Path.{◌≡◌, ◌∙◌, refl, sym, ap, ap₂}
use mathlib.Core.List.{List, [], ◌∷◌, ◌++◌}
use Prim.Native.Nat.{ℕ, zero, suc, ◌+◌, ◌-◌, ◌*◌, ◌/◌, ◌%◌, ◌^◌, ◌≤◌, ◌<◌}
use native.Mathlib.Nat.{pow-succ', zero-add, mod-eq_of_lt, mod-one, not-suc-le-zero, mul_assoc, mul-add-mod_self_right, mul-add-div_right, min-le_left, min-le_right, le-max_left, le-max_right}
use native.Mathlib.Numerals.{one-add}
use native.Mathlib.Decide.{dec_lt, dec_le}
use native.Mathlib.Omega.{arith}
use borrow.Author.Tests.{lt-ltb, le-ltb, le-leb, lt-leb}
use lib.Pow.{pow_pos, mod-pow-add, pow-add}
use lib.Pow as pow
use lib.ListN.{length, take, length-append}
use lib.Seq.{take_at, length-take-le}
use Rattle.asmap_codes.specs.Bits.{number, high}
use Rattle.asmap_codes.specs.Row.{Row, span, shortest, longest}
use Rattle.asmap_codes.specs.Code.{tail, code}
use Rattle.asmap_codes.specs.Encode.{encode, encode_of}
use Rattle.asmap_codes.proofs.BitLaws.{AllBits, number_lt, number-below, bits-take}
use Rattle.asmap_codes.specs.Reading.{Cut, Value}
use Rattle.asmap_codes.proofs.Readings.{value-same}

pub length_high : (n x : ℕ) → length (high n x) ≡ n
length_high zero x = refl
length_high (suc n) x = ap suc (length_high n x)

pub number_high : (n x : ℕ) → number (high n x) ≡ x % 2 ^ n
number_high zero x = sym (mod-one x)
number_high (suc n) x = rw (length_high n x, number_high n x, ← mod-pow-add x 1 n, one-add n)

tail_high : (s x v at : ℕ) (rest : List ℕ) → x < 2 ^ s → tail s v at (high s x ++ rest) ≡ Value (v + x) (at + s)
tail_high s x v at rest h =
    let l : s ≤ length (high s x ++ rest) = omega (arith, length-append (high s x) rest, length_high s x) in
    simp (le-leb s (length (high s x ++ rest)) l, take_at (high s x) rest s (length_high s x), number_high s x, mod-eq_of_lt h)

-- what was written is read back, whatever follows it
pub written : (ss : List ℕ) (x v at : ℕ) (rest : List ℕ) → x < span ss
    → code ss v at (encode ss x ++ rest) ≡ Value (v + x) (at + length (encode ss x))
written [] x v at rest h = absurd (not-suc-le-zero h)
written (s ∷ []) x v at rest h = rw (length_high s x) (tail_high s x v at rest (omega arith))
written (s ∷ t ∷ ss) x v at rest h = go (dec_lt x (2 ^ s)) (λ l. written (t ∷ ss) (x - 2 ^ s) (v + 2 ^ s) (at + 1) rest l)
  where
    go : Dec (x < 2 ^ s)
        → (x - 2 ^ s < span (t ∷ ss)
        → code (t ∷ ss) (v + 2 ^ s) (at + 1) (encode (t ∷ ss) (x - 2 ^ s) ++ rest)
        ≡ Value (v + 2 ^ s + (x - 2 ^ s)) (at + 1 + length (encode (t ∷ ss) (x - 2 ^ s))))
        → code (s ∷ t ∷ ss) v at (encode (s ∷ t ∷ ss) x ++ rest) ≡ Value (v + x) (at + length (encode (s ∷ t ∷ ss) x))
    go (yes l) ih = rw (lt-ltb x (2 ^ s) l, length_high s x) (tail_high s x v (at + 1) rest l ∙ ap (Value (v + x)) (omega arith))
    go (no g) ih = rw (le-ltb x (2 ^ s) (omega arith)) (ih (omega arith) ∙ ap₂ Value (omega arith) (omega arith))

-- bits above the n lowest make no difference
high_add : (n d a r : ℕ) → high n (a * 2 ^ (d + n) + r) ≡ high n r
high_add zero d a r = refl
high_add (suc n) d a r =
    let e : a * 2 ^ (d + suc n) ≡ a * 2 ^ d * 2 * 2 ^ n = rw (pow-add 2 d (suc n), pow-succ' 2 n) (simp mul_assoc) in
    let k : d + suc n ≡ suc d + n = omega arith in
    let head : (a * 2 ^ (d + suc n) + r) / 2 ^ n % 2 ≡ r / 2 ^ n % 2
    = rw (e, mul-add-div_right (pow_pos n) (a * 2 ^ d * 2) r) (mul-add-mod_self_right (a * 2 ^ d) 2 (r / 2 ^ n)) in
    ap₂ ◌∷◌ head (rw k (high_add n (suc d) a r))

pub high-number : (l : List ℕ) → AllBits l → high (length l) (number l) ≡ l
high-number [] h = refl
high-number (x ∷ xs) h =
    let r : number xs < 2 ^ length xs = number_lt xs (λ i. h (suc i)) in
    let head : (x * 2 ^ length xs + number xs) / 2 ^ length xs % 2 ≡ x = rw (pow.high x (length xs) r) (mod-eq_of_lt (h 0)) in
    let low = rw zero-add at (high_add (length xs) 0 x (number xs)) in
    ap₂ ◌∷◌ head (low ∙ high-number xs (λ i. h (suc i)))

-- what a code's reading says of the bits read
pub record Read (ss : List ℕ) (v at : ℕ) (bs : List ℕ) (y n : ℕ) : Type 0 where
  pub above : v ≤ y
  pub below : y < v + span ss
  pub after : at ≤ n
  pub bits : encode ss (y - v) ≡ take (n - at) bs

pub tail_read : (s v at : ℕ) (bs : List ℕ) (y n : ℕ) → tail s v at bs ≡ Value y n
    → (y ≡ v + number (take s bs)) × (n ≡ at + s) × (s ≤ length bs)
tail_read s v at bs y n e = go (dec_le s (length bs))
  where
    go : Dec (s ≤ length bs) → (y ≡ v + number (take s bs)) × (n ≡ at + s) × (s ≤ length bs)
    go (yes l) = let q = value-same (rw (le-leb s (length bs) l) at e) in (sym q.0, sym q.1, l)
    go (no g) = let q = rw (lt-leb s (length bs) (omega arith)) at e in let z : ◌≡◌ {A = ℕ} 0 1 = cc in absurd (omega arith)

-- s bits of bs, read as a number and written again
high_take : (s : ℕ) (bs : List ℕ) → AllBits bs → s ≤ length bs → high s (number (take s bs)) ≡ take s bs
high_take s bs h l = rw (length-take-le s bs l) at (high-number (take s bs) (bits-take s bs h))

-- the last size
read_last : (s v at : ℕ) (bs : List ℕ) (y n : ℕ) → AllBits bs → tail s v at bs ≡ Value y n → Read (s ∷ []) v at bs y n
read_last s v at bs y n h e =
    let t = tail_read s v at bs y n e in
    let d : y - v ≡ number (take s bs) = omega arith in
    let k : n - at ≡ s = omega arith in
    let b = number-below s bs h in
    record { above = omega arith; below = omega arith; after = omega arith; bits = rw (d, k) (high_take s bs h t.2) }

-- a bit that is 0
read_stop : (s t : ℕ) (ss : List ℕ) (v at : ℕ) (bs : List ℕ) (y n : ℕ) → AllBits bs → tail s v (at + 1) bs ≡ Value y n
    → Read (s ∷ t ∷ ss) v at (0 ∷ bs) y n
read_stop s t ss v at bs y n h e =
    let q = tail_read s v (at + 1) bs y n e in
    let d : y - v ≡ number (take s bs) = omega arith in
    let k : n - at ≡ suc s = omega arith in
    let b = number-below s bs h in
    record {
      above = omega arith;
      below = omega arith;
      after = omega arith;
      bits = rw (d, k, lt-ltb (number (take s bs)) (2 ^ s) b) (ap (◌∷◌ 0) (high_take s bs h q.2));
    }

-- a bit that is 1
read_more : (s t : ℕ) (ss : List ℕ) (v at b : ℕ) (bs : List ℕ) (y n : ℕ) → suc b < 2 → Read (t ∷ ss) (v + 2 ^ s) (at + 1) bs y n
    → Read (s ∷ t ∷ ss) v at (suc b ∷ bs) y n
read_more s t ss v at b bs y n h r =
    let a = r.above in
    let c = r.after in
    let z : suc b ≡ 1 = omega arith in
    let k : n - at ≡ suc (n - (at + 1)) = omega arith in
    let d : y - v - 2 ^ s ≡ y - (v + 2 ^ s) = omega arith in
    record {
      above = omega arith;
      below = omega (arith, r.below);
      after = omega arith;
      bits = rw (k, z, le-ltb (y - v) (2 ^ s) (omega arith), d) (ap (◌∷◌ 1) r.bits);
    }

pub cut_no_value : (y n : ℕ) {A : Type 0} → Cut ≡ Value y n → A
cut_no_value y n e = let z : ◌≡◌ {A = ℕ} 0 1 = cc in absurd (omega arith)

-- writing what was read gives the bits read
pub was_read : (ss : List ℕ) (v at : ℕ) (bs : List ℕ) (y n : ℕ) → AllBits bs → code ss v at bs ≡ Value y n → Read ss v at bs y n
was_read [] v at bs y n h e = cut_no_value y n e
was_read (s ∷ []) v at bs y n h e = read_last s v at bs y n h e
was_read (s ∷ t ∷ ss) v at [] y n h e = cut_no_value y n e
was_read (s ∷ t ∷ ss) v at (zero ∷ bs) y n h e = read_stop s t ss v at bs y n (λ i. h (suc i)) e
was_read (s ∷ t ∷ ss) v at (suc b ∷ bs) y n h e =
    read_more s t ss v at b bs y n (h 0) (was_read (t ∷ ss) (v + 2 ^ s) (at + 1) bs y n (λ i. h (suc i)) e)

-- ---- the two laws, over a row. They ask nothing of its sizes.

-- Reading what was written: a value of the row, whatever stands after its bits, is read as that value, up to their end.
pub written_then_read : (row : Row) (v at : ℕ) (rest : List ℕ) → row.least ≤ v → v < row.least + span row.sizes
    → code row.sizes row.least at (encode_of row v ++ rest) ≡ Value v (at + length (encode_of row v))
written_then_read row v at rest h k =
    let e : row.least + (v - row.least) ≡ v = omega arith in
    written row.sizes (v - row.least) row.least at rest (omega arith) ∙ ap (λ (x : ℕ). Value x (at + length (encode_of row v))) e

-- Writing what was read: the bits that a code was read from are those written for its value.
pub read_then_written : (row : Row) (at : ℕ) (bs : List ℕ) (v n : ℕ) → AllBits bs → code row.sizes row.least at bs ≡ Value v n
    → take (n - at) bs ≡ encode_of row v
read_then_written row at bs v n h e = sym (was_read row.sizes row.least at bs v n h e).bits

-- ---- how many bits a code has

pub length_encode : (ss : List ℕ) (x : ℕ) → (shortest ss ≤ length (encode ss x)) × (length (encode ss x) ≤ longest ss)
length_encode [] x = (omega arith, omega arith)
length_encode (s ∷ []) x = omega (arith, length_high s x)
length_encode (s ∷ t ∷ ss) x = go (dec_lt x (2 ^ s)) (length_encode (t ∷ ss) (x - 2 ^ s))
  where
    go : Dec (x < 2 ^ s) → (shortest (t ∷ ss) ≤ length (encode (t ∷ ss) (x - 2 ^ s))) × (length (encode (t ∷ ss) (x - 2 ^ s)) ≤ longest (t ∷ ss))
        → (shortest (s ∷ t ∷ ss) ≤ length (encode (s ∷ t ∷ ss) x)) × (length (encode (s ∷ t ∷ ss) x) ≤ longest (s ∷ t ∷ ss))
    go (yes l) ih = rw (lt-ltb x (2 ^ s) l) (omega (arith, length_high s x, min-le_left s (shortest (t ∷ ss)), le-max_left s (longest (t ∷ ss))))
    go (no g) ih = rw (le-ltb x (2 ^ s) (omega arith)) (omega (arith, ih.0, ih.1, min-le_right s (shortest (t ∷ ss)), le-max_right s (longest (t ∷ ss))))
