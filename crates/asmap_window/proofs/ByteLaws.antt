-- Bytes as one number are a window of their bits.
-- Assumes nothing.
use mathlib.Core.Path.{◌≡◌, ◌∙◌, sym, ap}
use mathlib.Core.List.{List, [], ◌∷◌, ◌++◌}
use Prim.Native.Nat.{ℕ, zero, suc, ◌+◌, ◌-◌, ◌*◌, ◌/◌, ◌%◌, ◌^◌, ◌≤◌, ◌<◌}
use native.Mathlib.Nat.{zero-div, zero-mod}
use native.Mathlib.Decide.{dec_lt}
use native.Mathlib.Omega.{arith}
use lib.Pow.{pow-add, pow_mono, shr-shr}
use lib.ListN.{length, get_or, take, drop, drop_of_length-le, length-drop, take-append-drop, get_or-append}
use lib.Seq.{get_or-append-add, get_or-drop, drop-drop, length-take-le}
use Rattle.asmap_codes.specs.Bits.{low, map_bits}
use Rattle.byte_numbers.specs.models.Word.{number, Bytes, Word}
use Rattle.asmap_window.specs.models.Window.{Window}
use Rattle.asmap_codes.proofs.BitLaws.{get_or-low, length-map_bits, map_bits-append, drop-map_bits}
use Rattle.asmap_codes.proofs.CodeLaws.{heads}

-- a byte and what stands above it: the bits of each
pub bit_below : (b r i : ℕ) → i < 8 → (b + 256 * r) / 2 ^ i % 2 ≡ b / 2 ^ i % 2
bit_below b r zero h = omega arith
bit_below b r (suc zero) h = omega arith
bit_below b r (suc (suc zero)) h = omega arith
bit_below b r (suc (suc (suc zero))) h = omega arith
bit_below b r (suc (suc (suc (suc zero)))) h = omega arith
bit_below b r (suc (suc (suc (suc (suc zero))))) h = omega arith
bit_below b r (suc (suc (suc (suc (suc (suc zero)))))) h = omega arith
bit_below b r (suc (suc (suc (suc (suc (suc (suc zero))))))) h = omega arith
bit_below b r (suc (suc (suc (suc (suc (suc (suc (suc i)))))))) h = absurd (omega arith)

pub bit_above : (b r j : ℕ) → b < 256 → (b + 256 * r) / 2 ^ (8 + j) % 2 ≡ r / 2 ^ j % 2
bit_above b r j h =
    let e : (b + 256 * r) / 2 ^ 8 ≡ r = omega arith in
    ap (λ (k : ℕ). k % 2) (sym (shr-shr (b + 256 * r) 8 j) ∙ ap (λ (k : ℕ). k / 2 ^ j) e)

pub window_bytes : (bs : List ℕ) → Bytes bs → (i : ℕ) → number bs / 2 ^ i % 2 ≡ get_or (map_bits bs) i 0
window_bytes [] h i = rw (zero-div (2 ^ i), zero-mod 2)
window_bytes (b ∷ bs) h i = go (dec_lt i 8) (λ j. window_bytes bs h.1 j)
  where
    go : Dec (i < 8) → ((j : ℕ) → number bs / 2 ^ j % 2 ≡ get_or (map_bits bs) j 0) → (b + 256 * number bs) / 2 ^ i % 2 ≡ get_or (low 8 b ++ map_bits bs) i 0
    go (yes l) ih = bit_below b (number bs) i l ∙ sym (get_or-append (low 8 b) (map_bits bs) 0 i l ∙ get_or-low 8 b i l)
    go (no l) ih =
        let e : i ≡ 8 + (i - 8) = omega arith in
        ap (λ (k : ℕ). (b + 256 * number bs) / 2 ^ k % 2) e
        ∙ bit_above b (number bs) (i - 8) h.0
        ∙ ih (i - 8)
        ∙ sym (ap (λ (k : ℕ). get_or (low 8 b ++ map_bits bs) k 0) e ∙ get_or-append-add (low 8 b) (map_bits bs) (i - 8) 0)

pub next : (l : List ℕ) (i j : ℕ) → j ≡ i + 1 → i < length l → drop i l ≡ get_or l i 0 ∷ drop j l
next l i j e h = rw e (heads l i h)

-- a window of the first bytes is one of them all
pub window_front : (w : ℕ) (xs ys : List ℕ) → Window (8 * length xs) w (map_bits xs) → Window (8 * length xs) w (map_bits (xs ++ ys))
window_front w xs ys h i l =
    h i l ∙ sym (rw (map_bits-append xs ys) (get_or-append (map_bits xs) (map_bits ys) 0 i (omega (arith, length-map_bits xs))))

-- eight bytes of a map, as one number
pub window-word : (m : List ℕ) (b w : ℕ) → b + 8 ≤ length m → Word w (take 8 (drop b m)) → Window 64 w (drop (8 * b) (map_bits m))
window-word m b w h p =
    let xs = take 8 (drop b m) in
    let l : length xs ≡ 8 = length-take-le 8 (drop b m) (omega (arith, length-drop b m)) in
    let e : Window (8 * length xs) w (map_bits xs) = λ i k. ap (λ (n : ℕ). n / 2 ^ i % 2) p.value ∙ window_bytes xs p.small i in
    rw (drop-map_bits m b, ← take-append-drop 8 (drop b m)) (λ i k. window_front w xs (drop 8 (drop b m)) e i (omega (arith, l)))

-- k bits on
pub window_shift : (k n w : ℕ) (bs : List ℕ) → Window (k + n) w bs → Window n (w / 2 ^ k) (drop k bs)
window_shift k n w bs h i l =
    ap (λ (x : ℕ). x % 2) (shr-shr w k i) ∙ h (k + i) (omega arith) ∙ sym (get_or-drop k bs i 0)

-- from the window of a byte's bits to that of a bit in it
pub window_at : (m : List ℕ) (at w : ℕ) → Window 64 w (drop (8 * (at / 8)) (map_bits m)) → Window 57 (w / 2 ^ (at % 8)) (drop at (map_bits m))
window_at m at w h =
    let e : 8 * (at / 8) + at % 8 ≡ at = omega arith in
    let d : drop (at % 8) (drop (8 * (at / 8)) (map_bits m)) ≡ drop at (map_bits m) = drop-drop (at % 8) (8 * (at / 8)) (map_bits m) ∙ ap (λ (k : ℕ). drop k (map_bits m)) e in
    rw (← d) (window_shift (at % 8) 57 w (drop (8 * (at / 8)) (map_bits m)) (λ i l. h i (omega arith)))

-- past the end there are zeros
pub window_past : (m : List ℕ) (at : ℕ) → length m ≤ at / 8 → Window 57 0 (drop at (map_bits m))
window_past m at h i l = rw (drop_of_length-le (map_bits m) {i = at} (omega (arith, length-map_bits m)), zero-div (2 ^ i), zero-mod 2)

-- fewer than eight bytes: one more fits
pub number_lt : (bs : List ℕ) → Bytes bs → number bs < 2 ^ (8 * length bs)
number_lt [] h = omega arith
number_lt (b ∷ bs) h =
    let e : 8 * suc (length bs) ≡ 8 + 8 * length bs = omega arith in
    rw (e, pow-add 2 8 (8 * length bs)) (omega (arith, number_lt bs h.1, h.0))

pub tail-fits : (m : List ℕ) (i : ℕ) → i ≤ length m → length m < i + 7 → Bytes (drop i m) → number (drop i m) < 2 ^ 48
tail-fits m i h k a =
    let l = length-drop i m in
    omega (arith, number_lt (drop i m) a, pow_mono {i = 8 * length (drop i m)} {j = 48} (omega arith))
