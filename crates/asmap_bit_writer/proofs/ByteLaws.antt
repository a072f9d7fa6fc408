-- Laws of bits in bytes: a number's low bits and the word of bits are inverse, a word appended to a window of bits, and what a map of
-- such bytes reads as. Assumes nothing.
use mathlib.Core.Path.{◌≡◌, ◌∙◌, refl, sym, ap, ap₂}
use mathlib.Core.List.{List, [], ◌∷◌, ◌++◌, append_assoc, append-nil}
use Prim.Native.Nat.{ℕ, zero, suc, ◌+◌, ◌-◌, ◌*◌, ◌/◌, ◌%◌, ◌^◌, ◌≤◌, ◌<◌}
use native.Mathlib.Nat.{pow-suc, pow-succ', mul_assoc, not-suc-le-zero}
use native.Mathlib.Decide.{dec_le}
use native.Mathlib.Omega.{arith}
use lib.Dec.{lit<}
use lib.ListN.{length, take, drop, replicate, length-append, length-drop, length-take, take-append-drop, drop_of_length-le, replicate-append-replicate}
use lib.Seq.{take_at, drop_at, take_all, length-take-le}
use Rattle.asmap_codes.specs.Bits.{low, map_bits, word}
use Rattle.asmap_codes.proofs.BitLaws.{AllBits, bits-take, bits-drop}
use Rattle.asmap_bit_writer.specs.Bytes.{to_bytes, bytes_for, bytes_of}

pub word_lt : (l : List ℕ) → AllBits l → word l < 2 ^ length l
word_lt [] h = lit< tt
word_lt (b ∷ bs) h = rw (pow-succ' 2 (length bs)) (omega (arith, word_lt bs (λ i. h (suc i)), h 0))

pub word_low : (n x : ℕ) → x < 2 ^ n → word (low n x) ≡ x
word_low zero x h = omega arith
word_low (suc n) x h =
    let k = rw (pow-succ' 2 n) at h in
    rw (word_low n (x / 2) (omega arith)) (omega arith)

low-zero : (n : ℕ) → low n 0 ≡ replicate n 0
low-zero zero = refl
low-zero (suc n) = ap (◌∷◌ 0) (low-zero n)

-- the bits of a word, and zeros above
pub low_word : (l : List ℕ) (n : ℕ) → AllBits l → length l ≤ n → low n (word l) ≡ l ++ replicate (n - length l) 0
low_word [] n h k = let e : n - 0 ≡ n = omega arith in rw e (low-zero n)
low_word (b ∷ bs) zero h k = absurd (not-suc-le-zero k)
low_word (b ∷ bs) (suc n) h k =
    let e : (b + 2 * word bs) % 2 ≡ b = omega (arith, h 0) in
    let q : (b + 2 * word bs) / 2 ≡ word bs = omega (arith, h 0) in
    let d : suc n - suc (length bs) ≡ n - length bs = omega arith in
    rw (e, q, d) (ap (◌∷◌ b) (low_word bs n (λ i. h (suc i)) (omega arith)))

pub low-word_all : (l : List ℕ) → AllBits l → low (length l) (word l) ≡ l
low-word_all [] h = refl
low-word_all (b ∷ bs) h =
    let e : (b + 2 * word bs) % 2 ≡ b = omega (arith, h 0) in
    let q : (b + 2 * word bs) / 2 ≡ word bs = omega (arith, h 0) in
    rw (e, q) (ap (◌∷◌ b) (low-word_all bs (λ i. h (suc i))))

-- the law of the window: a word of k bits put above n bits
pub low-append : (n k a w : ℕ) → a < 2 ^ n → low (n + k) (a + w * 2 ^ n) ≡ low n a ++ low k w
low-append zero k a w h =
    let e : a + w * 2 ^ 0 ≡ w = omega arith in
    let z : 0 + k ≡ k = omega arith in
    rw (e, z)
low-append (suc n) k a w h =
    let p : 2 ^ suc n ≡ 2 * 2 ^ n = pow-succ' 2 n in
    let t : w * 2 ^ suc n ≡ w * 2 ^ n * 2 = rw (pow-suc 2 n) (sym (mul_assoc w (2 ^ n) 2)) in
    let e : (a + w * 2 ^ suc n) % 2 ≡ a % 2 = omega arith in
    let q : (a + w * 2 ^ suc n) / 2 ≡ a / 2 + w * 2 ^ n = omega arith in
    let s : suc n + k ≡ suc (n + k) = omega arith in
    rw (s, e, q) (ap (◌∷◌ (a % 2)) (low-append n k (a / 2) w (omega arith)))

-- eight bits are a byte
pub bytes-eight : (a rest : List ℕ) → length a ≡ 8 → bytes_of (a ++ rest) ≡ word a ∷ bytes_of rest
unfolding bytes_of
bytes-eight a rest h =
    let e : bytes_for (length (a ++ rest)) ≡ suc (bytes_for (length rest)) = omega (arith, length-append a rest) in
    rw (e, take_at a rest 8 h, drop_at a rest 8 h)

-- the last byte: one to eight bits, and zeros
pub bytes_last : (a : List ℕ) → 0 < length a → length a ≤ 8 → bytes_of a ≡ word a ∷ []
unfolding bytes_of
bytes_last a h k =
    let e : bytes_for (length a) ≡ 1 = omega arith in
    rw (e, take_all 8 a k)

-- a whole byte of a window: eight low bits go out, the rest moves down
pub bytes_low : (k a : ℕ) (rest : List ℕ) → bytes_of (low (8 + k) a ++ rest) ≡ a % 256 ∷ bytes_of (low k (a / 256) ++ rest)
bytes_low k a rest =
    let q : a / 2 / 2 / 2 / 2 / 2 / 2 / 2 / 2 ≡ a / 256 = omega arith in
    let w : word (low 8 a) ≡ a % 256 = omega arith in
    let s : 8 + k ≡ suc (suc (suc (suc (suc (suc (suc (suc k))))))) = omega arith in
    rw (s, q) (bytes-eight (low 8 a) (low k (a / 256) ++ rest) refl ∙ ap (λ (x : ℕ). x ∷ bytes_of (low k (a / 256) ++ rest)) w)

pub length-to_bytes : (n : ℕ) (bs : List ℕ) → length (to_bytes n bs) ≡ n
length-to_bytes zero bs = refl
length-to_bytes (suc n) bs = ap suc (length-to_bytes n (drop 8 bs))

pub length-bytes_of : (bs : List ℕ) → length (bytes_of bs) ≡ bytes_for (length bs)
unfolding bytes_of
length-bytes_of bs = length-to_bytes (bytes_for (length bs)) bs

-- what bytes made of bits read as: the bits, then zeros
pub map-to_bytes : (n : ℕ) (bs : List ℕ) → AllBits bs → length bs ≤ 8 * n → map_bits (to_bytes n bs) ≡ bs ++ replicate (8 * n - length bs) 0
map-to_bytes zero [] h k = refl
map-to_bytes zero (b ∷ bs) h k = absurd (not-suc-le-zero k)
map-to_bytes (suc n) bs h k = go (dec_le 8 (length bs)) (map-to_bytes n (drop 8 bs) (bits-drop 8 bs h) (omega (arith, length-drop 8 bs)))
  where
    first : low 8 (word (take 8 bs)) ≡ take 8 bs ++ replicate (8 - length (take 8 bs)) 0
    first = low_word (take 8 bs) 8 (bits-take 8 bs h) (omega (arith, length-take 8 bs))

    go : Dec (8 ≤ length bs) → map_bits (to_bytes n (drop 8 bs)) ≡ drop 8 bs ++ replicate (8 * n - length (drop 8 bs)) 0
        → low 8 (word (take 8 bs)) ++ map_bits (to_bytes n (drop 8 bs)) ≡ bs ++ replicate (8 * suc n - length bs) 0
    go (yes l) ih =
        let e : 8 - length (take 8 bs) ≡ 0 = omega (arith, length-take-le 8 bs l) in
        let q : 8 * n - length (drop 8 bs) ≡ 8 * suc n - length bs = omega (arith, length-drop 8 bs) in
        let f : low 8 (word (take 8 bs)) ≡ take 8 bs = rw (e, append-nil) at first in
        let r₁ : map_bits (to_bytes n (drop 8 bs)) ≡ drop 8 bs ++ replicate (8 * suc n - length bs) 0 = rw q at ih in
        ap₂ ◌++◌ f r₁
        ∙ rw (← append_assoc, take-append-drop 8 bs)
    go (no g) ih =
        let t : take 8 bs ≡ bs = take_all 8 bs (omega arith) in
        let d : drop 8 bs ≡ [] = drop_of_length-le bs {i = 8} (omega arith) in
        let q : 8 * n - length (drop 8 bs) ≡ 8 * n = omega (arith, length-drop 8 bs) in
        let r : 8 - length bs + 8 * n ≡ 8 * suc n - length bs = omega arith in
        let f : low 8 (word (take 8 bs)) ≡ bs ++ replicate (8 - length bs) 0 = first ∙ ap (λ (l : List ℕ). l ++ replicate (8 - length l) 0) t in
        let r₂ : map_bits (to_bytes n (drop 8 bs)) ≡ replicate (8 * n) 0 = ih ∙ ap₂ (λ (l : List ℕ) (k : ℕ). l ++ replicate k 0) d q in
        ap₂ ◌++◌ f r₂
        ∙ rw (append_assoc, replicate-append-replicate {A = ℕ} (8 - length bs) (8 * n) 0, r)
