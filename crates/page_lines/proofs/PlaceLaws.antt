-- The bytes of a page by their places: the bytes of line k, and of a line its columns, spaces, point and line feed.
-- Assumes nothing.
use mathlib.Core.Path.{◌≡◌, ◌∙◌, refl, sym, ap}
use mathlib.Core.List.{List, [], ◌∷◌, ◌++◌}
use Prim.Native.Nat.{ℕ, zero, suc, ◌+◌, ◌*◌, ◌-◌, ◌/◌, ◌≤◌, ◌<◌}
use native.Mathlib.Omega.{arith}
use lib.ListN.{length, take, drop, get_or, length-drop, get_or-append}
use lib.Seq.{drop-append-add, drop-append-le, take-append-le, drop-drop, get_or-append-add, get_or-drop}
use Rattle.decimal_columns.specs.Columns.{digit_byte, column_byte, flush_right}
use Rattle.decimal_columns.proofs.ColumnLaws.{length_columns}
use Rattle.group_shares.specs.Spread.{Share}
use Rattle.group_shares.proofs.ShareLaws.{share_at}
use Rattle.page_lines.specs.PerCent.{tenths}
use Rattle.page_lines.specs.Line.{line, lines}
use Rattle.page_lines.proofs.LineLaws.{length-line}
use Rattle.page_lines.proofs.TellLaws.{behind_group, parts}

-- ---- line k

lines_from : (all : ℕ) (ss : List Share) (k : ℕ) → k < length ss → drop (25 * k) (lines all ss) ≡ line all (share_at ss k) ++ lines all (drop (suc k) ss)
lines_from all [] k h = absurd (omega arith)
lines_from all (s ∷ ss) zero h = refl
lines_from all (s ∷ ss) (suc k) h =
    let e : 25 * suc k ≡ length (line all s) + 25 * k = omega (arith, length-line all s) in
    ap (λ (i : ℕ). drop i (line all s ++ lines all ss)) e ∙ drop-append-add (line all s) (lines all ss) (25 * k) ∙ lines_from all ss k (omega arith)

pub line_at : (all : ℕ) (ss : List Share) (k j : ℕ) → k < length ss → j < 25 → get_or (lines all ss) (25 * k + j) 0 ≡ get_or (line all (share_at ss k)) j 0
line_at all ss k j h l =
    let s = share_at ss k in
    sym (get_or-drop (25 * k) (lines all ss) j 0)
    ∙ ap (λ (b : List ℕ). get_or b j 0) (lines_from all ss k h)
    ∙ get_or-append (line all s) (lines all (drop (suc k) ss)) 0 j (omega (arith, length-line all s))

-- c bytes of it, from its place j on
pub part_at : (all : ℕ) (ss : List Share) (k j c : ℕ) → k < length ss → j + c ≤ 25 → take c (drop (25 * k + j) (lines all ss)) ≡ take c (drop j (line all (share_at ss k)))
part_at all ss k j c h l =
    let s = share_at ss k in
    let rest = lines all (drop (suc k) ss) in
    sym (ap (take c) (drop-drop j (25 * k) (lines all ss)))
    ∙ ap (λ (b : List ℕ). take c (drop j b)) (lines_from all ss k h)
    ∙ ap (take c) (drop-append-le j (line all s) rest (omega (arith, length-line all s)))
    ∙ take-append-le c (drop j (line all s)) rest (omega (arith, length-line all s, length-drop j (line all s)))

-- ---- the columns of a number

columns_at : (c n j : ℕ) → j < c → get_or (flush_right c n) j 0 ≡ column_byte n (c - 1 - j)
unfolding flush_right
columns_at zero n j h = absurd (omega arith)
columns_at (suc c) n zero h = let e : c ≡ suc c - 1 - 0 = omega arith in ap (column_byte n) e
columns_at (suc c) n (suc j) h = let e : c - 1 - j ≡ suc c - 1 - suc j = omega arith in columns_at c n j (omega arith) ∙ ap (column_byte n) e

-- in front of others
columns-first : (c n j : ℕ) (bs : List ℕ) → j < c → get_or (flush_right c n ++ bs) j 0 ≡ column_byte n (c - 1 - j)
columns-first c n j bs h = get_or-append (flush_right c n) bs 0 j (omega (arith, length_columns c n)) ∙ columns_at c n j h

behind : (xs ys : List ℕ) (n j : ℕ) → length xs ≡ n → get_or (xs ++ ys) (n + j) 0 ≡ get_or ys j 0
behind xs ys n j e = ap (λ (k : ℕ). get_or (xs ++ ys) (k + j) 0) (sym e) ∙ get_or-append-add xs ys j 0

-- ---- the places of a line

module _ (all : ℕ) (s : Share) where
  pub group-column : (j : ℕ) → j < 10 → get_or (line all s) j 0 ≡ column_byte s.group (9 - j)
  unfolding line
  group-column j h = columns-first 10 s.group j _ h

  pub first_space : get_or (line all s) 10 0 ≡ 32
  unfolding line
  first_space = behind (flush_right 10 s.group) _ 10 0 (length_columns 10 s.group)

  pub count-column : (j : ℕ) → j < 6 → get_or (line all s) (11 + j) 0 ≡ column_byte s.count (5 - j)
  count-column j h = sym (get_or-drop 11 (line all s) j 0) ∙ ap (λ (l : List ℕ). get_or l j 0) (behind_group all s) ∙ columns-first 6 s.count j _ h

  pub second_space : get_or (line all s) 17 0 ≡ 32
  second_space = sym (get_or-drop 11 (line all s) 6 0) ∙ ap (λ (l : List ℕ). get_or l 6 0) (behind_group all s) ∙ behind (flush_right 6 s.count) _ 6 0 (length_columns 6 s.count)

  pub whole-column : (j : ℕ) → j < 4 → get_or (line all s) (18 + j) 0 ≡ column_byte (tenths s.count all / 10) (3 - j)
  whole-column j h = sym (get_or-drop 18 (line all s) j 0) ∙ ap (λ (l : List ℕ). get_or l j 0) (parts all s) ∙ columns-first 4 (tenths s.count all / 10) j _ h

  behind-whole : (j : ℕ) → get_or (line all s) (18 + (4 + j)) 0 ≡ get_or (46 ∷ digit_byte (tenths s.count all) 0 ∷ 10 ∷ []) j 0
  behind-whole j =
      let t = tenths s.count all in
      sym (get_or-drop 18 (line all s) (4 + j) 0) ∙ ap (λ (l : List ℕ). get_or l (4 + j) 0) (parts all s) ∙ behind (flush_right 4 (t / 10)) (46 ∷ digit_byte t 0 ∷ 10 ∷ []) 4 j (length_columns 4 (t / 10))

  pub point : get_or (line all s) 22 0 ≡ 46
  point = behind-whole 0

  pub line_feed : get_or (line all s) 24 0 ≡ 10
  line_feed = behind-whole 2
