-- A page, by the definitions, is what a caller reads off it: from the lines of a spread to `Printed`.
-- Assumes nothing.
use Prim.Native.Nat.{ℕ, zero, suc, ◌+◌, ◌*◌, ◌-◌, ◌/◌, ◌%◌, ◌<◌}
use mathlib.Core.Path.{◌≡◌, ◌∙◌, refl, sym, ap}
use mathlib.Core.Bool.{cond}
use mathlib.Core.List.{List, [], ◌∷◌}
use native.Mathlib.Nat.{pow-zero, div-one}
use native.Mathlib.Omega.{arith}
use lib.Dec.{eqb}
use lib.ListN.{length, take, drop, get_or}
use Rattle.decimal_columns.specs.Columns.{digit_byte, column_byte, read_on, read_from}
use Rattle.group_shares.specs.Spread.{Share, spread, times}
use Rattle.group_shares.proofs.ShareLaws.{share_at, spread-next, spread-some, spread-times, spread_has, spread_most}
use Rattle.page_lines.specs.PerCent.{tenths}
use Rattle.page_lines.specs.Line.{line, page_of}
use Rattle.page_lines.specs.Told.{Tells, AllTell}
use Rattle.page_lines.proofs.LineLaws.{length-lines}
use Rattle.page_lines.proofs.PerCentLaws.{tenths_nearest}
use Rattle.page_lines.proofs.TellLaws.{tenth-told}
use Rattle.page_lines.proofs.PlaceLaws.{line_at, part_at, group-column, first_space, count-column, second_space, whole-column, point, line_feed}
use Rattle.demand_statements.specs.Printed.{many, column, read_in, Line, Rounded, Printed}

-- ---- plain numbers

many-times : (g : ℕ) (xs : List ℕ) → times g xs ≡ many g xs
unfolding many
many-times g [] = refl
many-times g (x ∷ xs) = ap (λ (n : ℕ). cond (eqb g x) (suc n) n) (many-times g xs)

column-byte : (n k : ℕ) → column_byte n k ≡ column n k
unfolding column_byte digit_byte column
column-byte n zero = ap (λ (q : ℕ). 48 + n / q % 10) (pow-zero 10) ∙ ap (λ (q : ℕ). 48 + q % 10) (div-one n)
column-byte n (suc k) = refl

read_same : (v : ℕ) (bs : List ℕ) → read_from v bs ≡ read_in v bs
unfolding read_from read_on read_in
read_same v [] = refl
read_same v (b ∷ bs) = read_same (cond (eqb b 32) v (10 * v + (b - 48))) bs

tell_at : (all : ℕ) (ss : List Share) (k : ℕ) → AllTell all ss → k < length ss → Tells all (share_at ss k)
tell_at all [] k t h = absurd (omega arith)
tell_at all (s ∷ ss) zero t h = t.0
tell_at all (s ∷ ss) (suc k) t h = tell_at all ss k t.1 (omega arith)

-- ---- line k of the page of gs

module _ (gs : List ℕ) (told : AllTell (length gs) (spread gs)) (k : ℕ) (h : k < length (spread gs)) where
  all : ℕ
  all = length gs

  s : Share
  s = share_at (spread gs) k

  counts : s.count ≡ many s.group gs
  unfolding s
  counts = spread-times gs k h ∙ many-times (share_at (spread gs) k).group gs

  at : (j : ℕ) → j < 25 → get_or (page_of gs) (25 * k + j) 0 ≡ get_or (line all s) j 0
  unfolding all s
  at j l = line_at (length gs) (spread gs) k j h l

  line_read : (n : ℕ) → s.count ≡ n → Line (page_of gs) (25 * k) s.group n (tenths s.count all)
  unfolding all s
  line_read n e =
      let t = tell_at (length gs) (spread gs) k told h in
      let f : 25 * k + 0 ≡ 25 * k = omega arith in
      record {
        group_columns = λ j l. at j (omega arith) ∙ group-column all s j l ∙ column-byte s.group (9 - j);
        space = at 10 (omega arith) ∙ first_space all s;
        count_columns = λ j l. at (11 + j) (omega arith) ∙ count-column all s j l ∙ column-byte s.count (5 - j) ∙ ap (λ (c : ℕ). column c (5 - j)) e;
        second_space = at 17 (omega arith) ∙ second_space all s;
        whole_columns = λ j l. at (18 + j) (omega arith) ∙ whole-column all s j l ∙ column-byte (tenths s.count all / 10) (3 - j);
        point = at 22 (omega arith) ∙ point all s;
        tenth = at 23 (omega arith) ∙ tenth-told all s;
        line_feed = at 24 (omega arith) ∙ line_feed all s;
        group_read =
            sym (read_same 0 (take 10 (drop (25 * k) (page_of gs))))
            ∙ ap (λ (i : ℕ). read_from 0 (take 10 (drop i (page_of gs)))) (sym f)
            ∙ ap (read_from 0) (part_at all (spread gs) k 0 10 h (omega arith))
            ∙ t.group;
        count_read =
            sym (read_same 0 (take 6 (drop (25 * k + 11) (page_of gs)))) ∙ ap (read_from 0) (part_at all (spread gs) k 11 6 h (omega arith)) ∙ t.count ∙ e;
      }

  line-rounded : (n : ℕ) → s.count ≡ n → Rounded n all (tenths s.count all)
  unfolding all s
  line-rounded n e =
      let r = tenths_nearest s.count all (omega (arith, spread_most gs)) in
      record { not_over = omega (arith, r.0, e); not_under = omega (arith, r.1, e) }

-- ---- the page

pub printed_page : (gs : List ℕ) → AllTell (length gs) (spread gs) → Printed gs (page_of gs)
unfolding all s
printed_page gs told =
    record {
      lines = length (spread gs);
      groups = λ k. (share_at (spread gs) k).group;
      tenths = λ k. tenths (share_at (spread gs) k).count (length gs);
      long = length-lines (length gs) (spread gs);
      rising = λ k h. spread-next gs k h;
      some = λ k h. omega (arith, spread-some gs k h, many-times (share_at (spread gs) k).group gs);
      every = λ i h. spread_has gs i h;
      line = λ k h. line_read gs told k h (many (share_at (spread gs) k).group gs) (counts gs told k h);
      rounded = λ k h. line-rounded gs told k h (many (share_at (spread gs) k).group gs) (counts gs told k h);
    }
