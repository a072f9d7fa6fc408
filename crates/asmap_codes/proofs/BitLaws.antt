-- Laws of the bits of a map.
-- Assumes nothing.
use mathlib.Core.Path.{◌≡◌, ◌∙◌, refl, sym, ap, subst}
use mathlib.Core.List.{List, [], ◌∷◌, ◌++◌}
use Prim.Native.Nat.{ℕ, zero, suc, ◌+◌, ◌-◌, ◌*◌, ◌/◌, ◌%◌, ◌^◌, ◌≤◌, ◌<◌}
use native.Mathlib.Nat.{div-div-eq-div-mul, pow-succ', div-one, le_of_suc-le-suc, not-suc-le-zero, pow-suc, mul_assoc, mul-le-mul_right}
use native.Mathlib.Numerals.{add-one}
use native.Mathlib.Decide.{dec_lt}
use native.Mathlib.Omega.{arith}
use lib.Dec.{lit<}
use lib.Pow.{pow_mono}
use lib.ListN.{length, get_or, take, drop, length-take, length-append, length-drop, get_or-append, get_or-eq_default}
use lib.Seq.{get_or-take, get_or-append-add, get_or-drop, drop-nil}
use Rattle.asmap_codes.specs.Bits.{low, map_bits, number}

pub length-low : (n x : ℕ) → length (low n x) ≡ n
length-low zero x = refl
length-low (suc n) x = ap suc (length-low n (x / 2))

pub get_or-low : (n x i : ℕ) → i < n → get_or (low n x) i 0 ≡ x / 2 ^ i % 2
get_or-low zero x i h = absurd (not-suc-le-zero h)
get_or-low (suc n) x zero h = ap (λ (k : ℕ). k % 2) (sym (div-one x))
get_or-low (suc n) x (suc i) h =
    get_or-low n (x / 2) i (le_of_suc-le-suc h) ∙ ap (λ (k : ℕ). k % 2) (div-div-eq-div-mul x 2 (2 ^ i) ∙ ap (λ (k : ℕ). x / k) (sym (pow-succ' 2 i)))

pub length-map_bits : (m : List ℕ) → length (map_bits m) ≡ 8 * length m
length-map_bits [] = refl
length-map_bits (x ∷ xs) = omega (arith, length-append (low 8 x) (map_bits xs), length-low 8 x, length-map_bits xs)

-- the bits of bytes and more bytes
pub map_bits-append : (xs ys : List ℕ) → map_bits (xs ++ ys) ≡ map_bits xs ++ map_bits ys
map_bits-append [] ys = refl
map_bits-append (x ∷ xs) ys = rw (map_bits-append xs ys)

-- the bits from a byte on are the bits of the bytes from there on
pub drop-map_bits : (m : List ℕ) (b : ℕ) → drop (8 * b) (map_bits m) ≡ map_bits (drop b m)
drop-map_bits m zero = refl
drop-map_bits [] (suc b) = drop-nil (8 * suc b)
drop-map_bits (x ∷ xs) (suc b) =
    let e : 8 * suc b ≡ suc (suc (suc (suc (suc (suc (suc (suc (8 * b)))))))) = omega arith in
    rw e (drop-map_bits xs b)

pub get_or-map_bits : (m : List ℕ) (i : ℕ) → i < 8 * length m → get_or (map_bits m) i 0 ≡ get_or m (i / 8) 0 / 2 ^ (i % 8) % 2
get_or-map_bits [] i h = absurd (not-suc-le-zero h)
get_or-map_bits (x ∷ xs) i h = go (dec_lt i 8) (λ j l. get_or-map_bits xs j l)
  where
    Rest : Type 0
    Rest = (j : ℕ) → j < 8 * length xs → get_or (map_bits xs) j 0 ≡ get_or xs (j / 8) 0 / 2 ^ (j % 8) % 2

    go : Dec (i < 8) → Rest → get_or (map_bits (x ∷ xs)) i 0 ≡ get_or (x ∷ xs) (i / 8) 0 / 2 ^ (i % 8) % 2
    go (yes l) ih =
        let q : i / 8 ≡ 0 = omega arith in
        let r : i % 8 ≡ i = omega arith in
        rw (q, r) (get_or-append (low 8 x) (map_bits xs) 0 i l ∙ get_or-low 8 x i l)
    go (no g) ih =
        let j : ℕ = i - 8 in
        let e : i ≡ 8 + j = omega arith in
        let q : i / 8 ≡ suc (j / 8) = omega arith in
        let r : i % 8 ≡ j % 8 = omega arith in
        rw (q, r) (ap (λ (k : ℕ). get_or (map_bits (x ∷ xs)) k 0) e ∙ get_or-append-add (low 8 x) (map_bits xs) j 0 ∙ ih j (omega arith))

pub bit_lt : (m : List ℕ) (i : ℕ) → get_or (map_bits m) i 0 < 2
bit_lt m i = go (dec_lt i (8 * length m))
  where
    go : Dec (i < 8 * length m) → get_or (map_bits m) i 0 < 2
    go (yes l) = rw (get_or-map_bits m i l) (omega arith)
    go (no g) = omega (arith, get_or-eq_default (map_bits m) 0 {n = i} (omega (arith, length-map_bits m)))

-- one bit more, at the end
pub number_snoc : (xs : List ℕ) (b : ℕ) → number (xs ++ (b ∷ [])) ≡ number xs * 2 + b
number_snoc [] b = omega arith
number_snoc (x ∷ xs) b =
    rw (length-append xs (b ∷ []), add-one, pow-suc, ← mul_assoc) (omega (arith, number_snoc xs b))

pub pow_below : (i : ℕ) {x : ℕ} → i < 31 → x < 2 ^ i → x * 2 + 1 < 2 ^ 32
pow_below i h l = omega (arith, pow_mono {i = i} {j = 30} (omega arith))

pub below_more_bit : (i : ℕ) {x b : ℕ} → x < 2 ^ i → b < 2 → x * 2 + b < 2 ^ (i + 1)
below_more_bit i h l = rw (add-one, pow-suc) (omega arith)

pub length_left : (m : List ℕ) (at : ℕ) → length (drop at (map_bits m)) ≡ 8 * length m - at
length_left m at = rw (length-drop at (map_bits m), length-map_bits m)

-- a size whose power is at most 2 ^ 31 is at most 31
pub size_of_pow : (s : ℕ) → 2 ^ s ≤ 2 ^ 31 → s ≤ 31
size_of_pow s h = go (dec_lt 31 s)
  where
    go : Dec (31 < s) → s ≤ 31
    go (yes l) = omega (arith, pow_mono {i = 32} {j = s} l)
    go (no g) = omega arith

abbrev pub AllBits : List ℕ → Type 0
AllBits l = (i : ℕ) → get_or l i 0 < 2

pub number_lt : (l : List ℕ) → AllBits l → number l < 2 ^ length l
number_lt [] h = lit< tt
number_lt (x ∷ xs) h = go x (h 0) (number_lt xs (λ i. h (suc i)))
  where
    go : (b : ℕ) → b < 2 → number xs < 2 ^ length xs → b * 2 ^ length xs + number xs < 2 ^ suc (length xs)
    go b l ih =
        let e : b * 2 ^ length xs ≤ 1 * 2 ^ length xs = mul-le-mul_right (2 ^ length xs) (omega arith) in
        rw pow-suc (omega arith)

pub bits-take : (n : ℕ) (l : List ℕ) → AllBits l → AllBits (take n l)
bits-take n l h i = go (dec_lt i n)
  where
    go : Dec (i < n) → get_or (take n l) i 0 < 2
    go (yes k) = rw (get_or-take n l i 0 k) (h i)
    go (no g) = omega (arith, get_or-eq_default (take n l) 0 {n = i} (omega (arith, length-take n l)))

pub bits-drop : (n : ℕ) (l : List ℕ) → AllBits l → AllBits (drop n l)
bits-drop n l h i = rw (get_or-drop n l i 0) (h (n + i))

pub bits-map : (m : List ℕ) → AllBits (map_bits m)
bits-map m i = bit_lt m i

-- s bits write a number below 2 ^ s
pub number-below : (s : ℕ) (l : List ℕ) → AllBits l → number (take s l) < 2 ^ s
number-below s l h =
    omega (arith, number_lt (take s l) (bits-take s l h), pow_mono {i = length (take s l)} {j = s} (omega (arith, length-take s l)))

-- one bit more of a number, above
low_snoc : (k w : ℕ) → low (suc k) w ≡ low k w ++ ((w / 2 ^ k % 2) ∷ [])
low_snoc zero w = rw (div-one w)
low_snoc (suc k) w =
    let e : w / 2 / 2 ^ k ≡ w / 2 ^ suc k = div-div-eq-div-mul w 2 (2 ^ k) ∙ ap (λ (x : ℕ). w / x) (sym (pow-succ' 2 k)) in
    ap (◌∷◌ (w % 2)) (low_snoc k (w / 2) ∙ ap (λ (x : ℕ). low k (w / 2) ++ (x % 2 ∷ [])) e)

pub halved : (w k : ℕ) → w / 2 ^ k / 2 ≡ w / 2 ^ (k + 1)
halved w k = rw (add-one, pow-suc) (div-div-eq-div-mul w (2 ^ k) 2)

pub number-low : (k w : ℕ) → number (low (k + 1) w) ≡ number (low k w) * 2 + w / 2 ^ k % 2
number-low k w = ap number (ap (λ (n : ℕ). low n w) (add-one k) ∙ low_snoc k w) ∙ number_snoc (low k w) (w / 2 ^ k % 2)

pub number-low_lt : (k w : ℕ) → number (low k w) < 2 ^ k
number-low_lt zero w = lit< tt
number-low_lt (suc k) w = subst (λ (n : ℕ). number (low n w) < 2 ^ n) (add-one k) (rw (number-low k w) (below_more_bit k (number-low_lt k w) (omega arith)))
