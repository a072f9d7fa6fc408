-- Lines put into an output: the parts of a line one after the other, and the lines of runs.
-- Assumes nothing.
use mathlib.Core.Path.{◌≡◌, ◌∙◌, refl, sym, ap}
use mathlib.Core.List.{List, [], ◌∷◌, ◌++◌, append_assoc}
use Prim.Native.Nat.{ℕ, suc, ◌+◌, ◌*◌, ◌/◌, ◌≤◌, ◌<◌}
use native.Mathlib.Omega.{arith}
use lib.ListN.{length, take, drop, get_or, set, length-append, length-drop}
use lib.Seq.{sets, sets-eq, drop-drop, length-take-le}
use Rattle.byte_numbers.proofs.Buffers.{sets-append_at}
use Rattle.decimal_columns.specs.Columns.{digit_byte, flush_right}
use Rattle.decimal_columns.proofs.ColumnLaws.{length_columns}
use Rattle.decimal_columns.proofs.Putting.{sets_whole}
use Rattle.group_shares.specs.Spread.{Share, share}
use Rattle.group_shares.specs.models.Runs.{front, runs}
use Rattle.group_shares.proofs.RunLaws.{runs_from, runs_done}
use Rattle.page_lines.specs.PerCent.{tenths}
use Rattle.page_lines.specs.Line.{per_cent, line, lines}

-- ---- how long they are

pub length_per_cent : (t : ℕ) → length (per_cent t) ≡ 6
unfolding per_cent
length_per_cent t = omega (arith, length-append (flush_right 4 (t / 10)) (46 ∷ digit_byte t 0 ∷ []), length_columns 4 (t / 10))

pub length-line : (all : ℕ) (s : Share) → length (line all s) ≡ 25
unfolding line
length-line all s =
    let p = per_cent (tenths s.count all) in
    omega (
      arith,
      length-append (flush_right 10 s.group) (32 ∷ flush_right 6 s.count ++ (32 ∷ p ++ (10 ∷ []))),
      length_columns 10 s.group,
      length-append (flush_right 6 s.count) (32 ∷ p ++ (10 ∷ [])),
      length_columns 6 s.count,
      length-append p (10 ∷ []),
      length_per_cent (tenths s.count all),
    )

pub length-lines : (all : ℕ) (ss : List Share) → length (lines all ss) ≡ 25 * length ss
length-lines all [] = refl
length-lines all (s ∷ ss) = omega (arith, length-append (line all s) (lines all ss), length-line all s, length-lines all ss)

-- ---- one part after the other

-- what stands in an output once a part of it was lent to hold bytes
pub part_put : (o xs bs : List ℕ) (at k : ℕ) → at + k ≤ length o → length bs ≡ k → xs ≡ bs → take at o ++ (xs ++ drop k (drop at o)) ≡ sets o at bs
part_put o xs bs at k h n e =
    ap (λ (l : List ℕ). take at o ++ (l ++ drop k (drop at o))) e
    ∙ ap (λ (l : List ℕ). take at o ++ (bs ++ l)) (drop-drop k at o ∙ ap (λ (j : ℕ). drop (at + j) o) (sym n))
    ∙ sym (sets-eq bs o at (omega arith) ∙ append_assoc (take at o) bs (drop (at + length bs) o))

-- and such a part holds k columns of a number
pub columns_put : (o xs : List ℕ) (at k n : ℕ) → at + k ≤ length o → xs ≡ flush_right (length (take k (drop at o))) n → take at o ++ (xs ++ drop k (drop at o)) ≡ sets o at (flush_right k n)
columns_put o xs at k n h e =
    part_put o xs (flush_right k n) at k h (length_columns k n) (e ∙ ap (λ (j : ℕ). flush_right j n) (length-take-le k (drop at o) (omega (arith, length-drop at o))))

-- columns, and what stands behind them
columns_then : (o : List ℕ) (at k j n : ℕ) (bs : List ℕ) → at + k ≡ j → sets o at (flush_right k n ++ bs) ≡ sets (sets o at (flush_right k n)) j bs
columns_then o at k j n bs e = sets-append_at o at j (flush_right k n) bs (ap (λ (l : ℕ). at + l) (length_columns k n) ∙ e)

-- a byte, and what stands behind it
byte_then : (o : List ℕ) (p q b : ℕ) (bs : List ℕ) → q ≡ suc p → sets o p (b ∷ bs) ≡ sets (set o p b) q bs
byte_then o p q b bs e = ap (λ (i : ℕ). sets (set o p b) i bs) (sym e)

-- the columns of a per cent, and those of a line, from the first to the last
pub per_cent-put : (o o₁ : List ℕ) (t d : ℕ) → length o ≡ 6 → o₁ ≡ sets o 0 (flush_right 4 (t / 10)) → d ≡ digit_byte t 0 → set (set o₁ 4 46) 5 d ≡ per_cent t
unfolding per_cent
per_cent-put o o₁ t d n e f =
    ap (λ (l : List ℕ). set (set l 4 46) 5 d) e
    ∙ ap (set (set (sets o 0 (flush_right 4 (t / 10))) 4 46) 5) f
    ∙ sym (columns_then o 0 4 4 (t / 10) (46 ∷ digit_byte t 0 ∷ []) refl ∙ byte_then (sets o 0 (flush_right 4 (t / 10))) 4 5 46 (digit_byte t 0 ∷ []) refl)
    ∙ sets_whole o (per_cent t) (length_per_cent t ∙ sym n)

module _ (o : List ℕ) (g n all : ℕ) where
  pub line-put : (o₁ o₂ o₃ : List ℕ) (t : ℕ) → length o ≡ 25 → t ≡ tenths n all → o₁ ≡ sets o 0 (flush_right 10 g) → o₂ ≡ sets (set o₁ 10 32) 11 (flush_right 6 n) → o₃ ≡ sets (set o₂ 17 32) 18 (per_cent t)
      → set o₃ 24 10 ≡ line all (share g n)
  unfolding line
  line-put o₁ o₂ o₃ t long z e f h =
      let p = per_cent (tenths n all) in
      let third : o₃ ≡ sets (set o₂ 17 32) 18 p = h ∙ ap (λ (x : ℕ). sets (set o₂ 17 32) 18 (per_cent x)) z in
      ap (λ (l : List ℕ). set l 24 10) third
      ∙ sym
      (columns_then o 0 10 10 g (32 ∷ flush_right 6 n ++ (32 ∷ p ++ (10 ∷ []))) refl
      ∙ ap (λ (l : List ℕ). sets l 10 (32 ∷ flush_right 6 n ++ (32 ∷ p ++ (10 ∷ [])))) (sym e)
      ∙ byte_then o₁ 10 11 32 (flush_right 6 n ++ (32 ∷ p ++ (10 ∷ []))) refl
      ∙ columns_then (set o₁ 10 32) 11 6 17 n (32 ∷ p ++ (10 ∷ [])) refl
      ∙ ap (λ (l : List ℕ). sets l 17 (32 ∷ p ++ (10 ∷ []))) (sym f)
      ∙ byte_then o₂ 17 18 32 (p ++ (10 ∷ [])) refl
      ∙ sets-append_at (set o₂ 17 32) 18 24 p (10 ∷ []) (omega (arith, length_per_cent (tenths n all))))
      ∙ sets_whole o (line all (share g n)) (length-line all (share g n) ∙ sym long)

-- ---- the lines of runs

-- the next run of groups: its line is put, and what will be put behind it is the rest
pub lines_next : (all : ℕ) (gs o o' : List ℕ) (i at end : ℕ) → i < length gs → end ≡ i + front (get_or gs i 0) (drop i gs) → (n : ℕ) → n ≡ front (get_or gs i 0) (drop i gs) → o' ≡ sets o at (line all (share (get_or gs i 0) n))
    → sets o' (at + 25) (lines all (runs (drop end gs))) ≡ sets o at (lines all (runs (drop i gs)))
lines_next all gs o o' i at end h e n k w =
    let g = get_or gs i 0 in
    let m = front g (drop i gs) in
    let l = line all (share g m) in
    let rest = lines all (runs (drop (i + m) gs)) in
    ap (λ (j : ℕ). sets o' (at + 25) (lines all (runs (drop j gs)))) e
    ∙ ap (λ (x : List ℕ). sets x (at + 25) rest) (w ∙ ap (λ (j : ℕ). sets o at (line all (share g j))) k)
    ∙ sym (sets-append_at o at (at + 25) l rest (ap (λ (j : ℕ). at + j) (length-line all (share g m))))
    ∙ ap (λ (rs : List Share). sets o at (lines all rs)) (sym (runs_from gs i h))

-- room for the line of the next run, and for the lines behind it
pub lines_room : (gs : List ℕ) (i : ℕ) → i < length gs → 25 + 25 * length (runs (drop (i + front (get_or gs i 0) (drop i gs)) gs)) ≡ 25 * length (runs (drop i gs))
lines_room gs i h = omega (arith, ap length (runs_from gs i h))

-- with no group left nothing will be put
pub lines-done : (all : ℕ) (gs o : List ℕ) (i at : ℕ) → length gs ≤ i → o ≡ sets o at (lines all (runs (drop i gs)))
lines-done all gs o i at h = ap (λ (rs : List Share). sets o at (lines all rs)) (sym (runs_done gs i h))
