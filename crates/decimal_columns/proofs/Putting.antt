-- Columns put from the last to the first: what is known on the way, at the start, after one column more, and at the end.
-- Assumes nothing.
use mathlib.Core.Path.{◌≡◌, ◌∙◌, refl, sym, ap}
use mathlib.Core.List.{List, ◌++◌, append-nil}
use Prim.Native.Nat.{ℕ, zero, suc, ◌+◌, ◌*◌, ◌-◌, ◌/◌, ◌^◌, ◌≤◌, ◌<◌}
use native.Mathlib.Nat.{pow-suc, pow-zero, one-mul}
use native.Mathlib.Omega.{arith}
use lib.ListN.{length, set, drop_of_length-le}
use lib.Seq.{sets, sets-eq}
use Rattle.decimal_columns.specs.Columns.{digit_byte, column_byte, flush_right}
use Rattle.decimal_columns.specs.models.Rest.{rest_byte}
use Rattle.decimal_columns.proofs.ColumnLaws.{rest-next, column_rest, column-put, length_columns}

-- o: the columns before; `left` are still to be put, `byte` is that of the next, and `rest` what is left of the number behind it
pub record Put (o : List ℕ) (n : ℕ) (out : List ℕ) (left byte rest : ℕ) : Type 0 where
  pub some : left ≤ length o
  pub next : byte ≡ column_byte n (length o - left)
  pub digits : rest ≡ n / 10 ^ suc (length o - left)
  pub bytes : out ≡ sets o left (flush_right (length o - left) n)

-- bytes for each place of a list
pub sets_whole : (o bs : List ℕ) → length bs ≡ length o → sets o 0 bs ≡ bs
sets_whole o bs e = sets-eq bs o 0 (omega arith) ∙ ap (λ (l : List ℕ). bs ++ l) (drop_of_length-le o (omega arith)) ∙ append-nil bs

module _ (o : List ℕ) (n : ℕ) where
  -- k columns are put
  put_at : (k left byte rest : ℕ) (out : List ℕ) → length o ≡ left + k → byte ≡ column_byte n k → rest ≡ n / 10 ^ suc k → out ≡ sets o left (flush_right k n) → Put o n out left byte rest
  put_at k left byte rest out e c d b =
      let f : k ≡ length o - left = omega arith in
      record {
        some = omega arith;
        next = c ∙ ap (column_byte n) f;
        digits = d ∙ ap (λ (j : ℕ). n / 10 ^ suc j) f;
        bytes = b ∙ ap (λ (j : ℕ). sets o left (flush_right j n)) f;
      }

  pub put_first : (b : ℕ) → b ≡ digit_byte n 0 → Put o n o (length o) b (n / 10)
  unfolding column_byte flush_right
  put_first b e =
      put_at zero (length o) b (n / 10) o (omega arith) e
      (ap (λ (q : ℕ). n / q) (sym (pow-suc 10 0 ∙ ap (λ (q : ℕ). q * 10) (pow-zero 10) ∙ one-mul 10)))
      refl

  pub put_next : (out : List ℕ) (left byte rest b : ℕ) → Put o n out left byte rest → 0 < left → b ≡ rest_byte rest → Put o n (set out (left - 1) byte) (left - 1) b (rest / 10)
  put_next out left byte rest b s h e =
      let k = length o - left in
      let p = left - 1 in
      let q : left ≡ suc p = omega arith in
      put_at (suc k) p b (rest / 10) (set out p byte)
      (omega (arith, s.some))
      (e ∙ ap rest_byte s.digits ∙ column_rest n k)
      (ap (λ (r : ℕ). r / 10) s.digits ∙ rest-next n (suc k))
      (ap (λ (l : List ℕ). set l p byte) (s.bytes ∙ ap (λ (j : ℕ). sets o j (flush_right k n)) q) ∙ ap (λ (c : ℕ). set (sets o (suc p) (flush_right k n)) p c) s.next ∙ column-put o p n k)

  pub put_all : (out : List ℕ) (left byte rest : ℕ) → Put o n out left byte rest → left ≡ 0 → out ≡ flush_right (length o) n
  put_all out left byte rest s z =
      let f : length o - left ≡ length o = omega arith in
      s.bytes
      ∙ ap (λ (j : ℕ). sets o left (flush_right j n)) f
      ∙ ap (λ (p : ℕ). sets o p (flush_right (length o) n)) z
      ∙ sets_whole o (flush_right (length o) n) (length_columns (length o) n)
