-- Laws of numbers of four bytes: a number's bytes and a number of bytes are inverse, and numbers read further on. Assumes nothing.
use mathlib.Core.Path.{◌≡◌, ◌∙◌, sym, ap₂}
use mathlib.Core.List.{List, [], ◌∷◌, ◌++◌}
use Prim.Native.Nat.{ℕ, ◌+◌, ◌*◌, ◌/◌, ◌%◌, ◌≤◌, ◌<◌}
use native.Mathlib.Omega.{arith}
use lib.ListN.{length, get_or, drop, take-append-drop}
use lib.Seq.{get_or-drop, drop-drop}
use Rattle.byte_numbers.specs.Numbers.{bytes4, number4}
use Rattle.byte_numbers.proofs.Words.{half-bytes}

-- every number is a byte
abbrev pub AllBytes : List ℕ → Type 0
AllBytes l = (i : ℕ) → get_or l i 0 < 256

pub bytes_drop : (n : ℕ) (l : List ℕ) → AllBytes l → AllBytes (drop n l)
bytes_drop n l h i = rw (get_or-drop n l i 0) (h (n + i))

-- a number of one byte, and three zeros
pub small_bytes : (x : ℕ) → x < 256 → bytes4 x ≡ x ∷ 0 ∷ 0 ∷ 0 ∷ []
small_bytes x h =
    let a : x % 256 ≡ x = omega arith in
    let b : x / 256 % 256 ≡ 0 = omega arith in
    let c : x / 65536 % 256 ≡ 0 = omega arith in
    let d : x / 16777216 % 256 ≡ 0 = omega arith in
    rw (a, b, c, d)

-- four bytes of a number below 2 ^ 32
pub number_of-bytes : (x : ℕ) → x < 4294967296 → x % 256 + 256 * (x / 256 % 256) + 65536 * (x / 65536 % 256) + 16777216 * (x / 16777216 % 256) ≡ x
number_of-bytes x h =
    let a : x ≡ 256 * (x / 256) + x % 256 = omega arith in
    let e : x / 65536 ≡ x / 256 / 256 = omega arith in
    let b : x / 256 ≡ 256 * (x / 65536) + x / 256 % 256 = rw e (omega arith) in
    let f : x / 16777216 ≡ x / 65536 / 256 = omega arith in
    let c : x / 65536 ≡ 256 * (x / 16777216) + x / 65536 % 256 = rw f (omega arith) in
    let d : x / 16777216 % 256 ≡ x / 16777216 = omega arith in
    by_parts (x % 256) (x / 256) (x / 256 % 256) (x / 65536) (x / 65536 % 256) (x / 16777216) (x / 16777216 % 256) a b c d
  where
    by_parts : (x₀ y y₀ z z₀ t t₀ : ℕ) → x ≡ 256 * y + x₀ → y ≡ 256 * z + y₀ → z ≡ 256 * t + z₀ → t₀ ≡ t → x₀ + 256 * y₀ + 65536 * z₀ + 16777216 * t₀ ≡ x
    by_parts x₀ y y₀ z z₀ t t₀ a b c d = omega arith

-- four bytes are those of their number
bytes_of-number : (a b c d : ℕ) → a < 256 → b < 256 → c < 256 → d < 256 → bytes4 (a + 256 * b + 65536 * c + 16777216 * d) ≡ a ∷ b ∷ c ∷ d ∷ []
bytes_of-number a b c d h i j k =
    let n = a + 256 * b + 65536 * c + 16777216 * d in
    let p : n % 256 ≡ a = omega arith in
    let q : n / 256 ≡ b + 256 * c + 65536 * d = omega arith in
    let r : n / 65536 ≡ c + 256 * d = omega arith in
    let s : n / 16777216 ≡ d = omega arith in
    let q' : (b + 256 * c + 65536 * d) % 256 ≡ b = omega arith in
    let r' : (c + 256 * d) % 256 ≡ c = omega arith in
    let s' : d % 256 ≡ d = omega arith in
    rw (p, q, r, s, q', r', s')

-- a list from byte k on: four bytes, which are those of their number, and the rest
pub four : (l : List ℕ) (k : ℕ) → AllBytes l → k + 4 ≤ length l → drop k l ≡ bytes4 (number4 l k) ++ drop (k + 4) l
four l k h s =
    sym (take-append-drop 4 (drop k l))
    ∙ ap₂ ◌++◌
    (half-bytes l k s ∙ sym (bytes_of-number (get_or l k 0) (get_or l (k + 1) 0) (get_or l (k + 2) 0) (get_or l (k + 3) 0) (h k) (h (k + 1)) (h (k + 2)) (h (k + 3))))
    (drop-drop 4 k l)

-- a number read from a list's later bytes
pub number4-drop : (l : List ℕ) (from k : ℕ) → number4 (drop from l) k ≡ number4 l (from + k)
number4-drop l from k =
    let a : from + (k + 1) ≡ from + k + 1 = omega arith in
    let b : from + (k + 2) ≡ from + k + 2 = omega arith in
    let c : from + (k + 3) ≡ from + k + 3 = omega arith in
    rw (get_or-drop from l k 0, get_or-drop from l (k + 1) 0, get_or-drop from l (k + 2) 0, get_or-drop from l (k + 3) 0, a, b, c)
