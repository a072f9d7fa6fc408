-- Columns: what is left of a number decides the byte of a column, columns are put in front of those to their right, and a reader of the columns
-- has the number that was put there.
-- Assumes nothing.
use borrow.Author.Tests.{lt-ltb, le-ltb, ne_eqb}
use mathlib.Core.Path.{◌≡◌, ◌∙◌, refl, sym, ap}
use mathlib.Core.List.{List, [], ◌∷◌}
use Prim.Native.Nat.{ℕ, zero, suc, ◌+◌, ◌*◌, ◌/◌, ◌%◌, ◌^◌, ◌≤◌, ◌<◌}
use native.Mathlib.Nat.{pow-suc, pow-succ', pow-zero, div-one, div-eq_of_lt, div-div-eq-div-mul, div-add-mod, mod-lt, mul-zero}
use native.Mathlib.Decide.{dec_lt}
use native.Mathlib.Omega.{arith}
use lib.ListN.{length, set}
use lib.Seq.{sets, set_comm}
use Rattle.decimal_columns.specs.Columns.{digit_byte, column_byte, flush_right, read_on, read_from, shown}
use Rattle.decimal_columns.specs.models.Rest.{rest_byte}

-- ---- powers of ten

pub ten_positive : (k : ℕ) → 0 < 10 ^ k
ten_positive zero = rw (pow-zero 10) (omega arith)
ten_positive (suc k) = rw (pow-succ' 10 k) (omega (arith, ten_positive k))

pub rest-next : (n k : ℕ) → n / 10 ^ k / 10 ≡ n / 10 ^ suc k
rest-next n k = div-div-eq-div-mul n (10 ^ k) 10 ∙ ap (λ (p : ℕ). n / p) (sym (pow-suc 10 k))

-- ---- a column, by what is left of the number there

last_of : (n k : ℕ) → digit_byte (n / 10 ^ k) 0 ≡ digit_byte n k
unfolding digit_byte
last_of n k = rw (pow-zero 10, div-one (n / 10 ^ k))

rest_none : (n k : ℕ) → n < 10 ^ k → n / 10 ^ k ≡ 0
rest_none n k h = div-eq_of_lt h

rest_some : (n k : ℕ) → 10 ^ k ≤ n → n / 10 ^ k ≡ 0 → ⊥
rest_some n k h e = omega (arith, div-add-mod n (10 ^ k), mod-lt n (ten_positive k), ap (λ (q : ℕ). 10 ^ k * q) e, mul-zero (10 ^ k))

pub column_rest : (n k : ℕ) → rest_byte (n / 10 ^ suc k) ≡ column_byte n (suc k)
unfolding column_byte
column_rest n k = go (dec_lt n (10 ^ suc k))
  where
    go : Dec (n < 10 ^ suc k) → rest_byte (n / 10 ^ suc k) ≡ column_byte n (suc k)
    go (yes h) = rw (lt-ltb n (10 ^ suc k) h, rest_none n (suc k) h)
    go (no h) = rw (le-ltb n (10 ^ suc k) (omega arith), ne_eqb (n / 10 ^ suc k) 0 (rest_some n (suc k) (omega arith))) (last_of n (suc k))

-- ---- columns from the right

-- a byte in front of others may be put after them
pub put_front : (o : List ℕ) (p : ℕ) (b : ℕ) (bs : List ℕ) → set (sets o (suc p) bs) p b ≡ sets o p (b ∷ bs)
put_front o p b bs = past o (suc p) bs (omega arith)
  where
    past : (o : List ℕ) (i : ℕ) (bs : List ℕ) → p < i → set (sets o i bs) p b ≡ sets (set o p b) i bs
    past o i [] h = refl
    past o i (x ∷ bs) h = past (set o i x) (suc i) bs (omega arith) ∙ ap (λ (l : List ℕ). sets l (suc i) bs) (set_comm o i p x b (λ e. omega (arith, e)))

-- k columns of n stand behind place p; the next one stands there
pub column-put : (o : List ℕ) (p n k : ℕ) → set (sets o (suc p) (flush_right k n)) p (column_byte n k) ≡ sets o p (flush_right (suc k) n)
unfolding flush_right
column-put o p n k = put_front o p (column_byte n k) (flush_right k n)

pub length_columns : (k n : ℕ) → length (flush_right k n) ≡ k
unfolding flush_right
length_columns zero n = refl
length_columns (suc k) n = ap suc (length_columns k n)

-- ---- columns read

digit_read : (v d : ℕ) → d < 10 → read_on v (48 + d) ≡ 10 * v + d
unfolding read_on
digit_read v d h = rw (ne_eqb (48 + d) 32 (λ e. omega (arith, e))) (omega arith)

-- with all digits to the left of a column read, its own joins them
digit_joins : (n k : ℕ) → read_on (n / 10 ^ suc k) (digit_byte n k) ≡ n / 10 ^ k
unfolding digit_byte
digit_joins n k =
    let r = n / 10 ^ k in
    ap (λ (v : ℕ). read_on v (48 + r % 10)) (sym (rest-next n k)) ∙ digit_read (r / 10) (r % 10) (omega arith) ∙ omega arith

space_joins : (v : ℕ) → read_on v 32 ≡ v
unfolding read_on
space_joins v = refl

column_read : (n k : ℕ) → read_on (n / 10 ^ suc k) (column_byte n k) ≡ n / 10 ^ k
unfolding column_byte
column_read n zero = digit_joins n zero
column_read n (suc k) = go (dec_lt n (10 ^ suc k))
  where
    go : Dec (n < 10 ^ suc k) → read_on (n / 10 ^ suc (suc k)) (column_byte n (suc k)) ≡ n / 10 ^ suc k
    go (yes h) =
        rw (lt-ltb n (10 ^ suc k) h)
        (space_joins (n / 10 ^ suc (suc k)) ∙ sym (rest-next n (suc k)) ∙ ap (λ (v : ℕ). v / 10) (rest_none n (suc k) h) ∙ sym (rest_none n (suc k) h))
    go (no h) = rw (le-ltb n (10 ^ suc k) (omega arith)) (digit_joins n (suc k))

pub read_on_lem : (k n : ℕ) → read_from (n / 10 ^ k) (flush_right k n) ≡ n
unfolding flush_right read_from
read_on_lem zero n = rw (pow-zero 10) (div-one n)
read_on_lem (suc k) n = ap (λ (v : ℕ). read_from v (flush_right k n)) (column_read n k) ∙ read_on_lem k n

-- a number of at most so many digits is what its columns show
pub columns_show : (k n : ℕ) → n < 10 ^ k → shown (flush_right k n) ≡ n
columns_show k n h = ap (λ (v : ℕ). read_from v (flush_right k n)) (sym (rest_none n k h)) ∙ read_on_lem k n
