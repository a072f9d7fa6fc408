-- A line tells its share: the columns are wide enough for every group that a numbering has, for every count of at most 4,096, and for every
-- per cent.
-- Assumes nothing.
use mathlib.Core.Path.{◌≡◌, ◌∙◌, refl, sym, ap}
use mathlib.Core.List.{List, [], ◌∷◌, ◌++◌, append_assoc}
use Prim.Native.Nat.{ℕ, ◌+◌, ◌/◌, ◌%◌, ◌^◌, ◌≤◌, ◌<◌}
use native.Mathlib.Nat.{pow-zero, div-one}
use native.Mathlib.Omega.{arith}
use lib.ListN.{length, take, drop, get_or}
use lib.Seq.{take_at, drop_at, drop-drop, get_or-drop}
use Rattle.decimal_columns.specs.Columns.{digit_byte, flush_right, shown}
use Rattle.decimal_columns.proofs.ColumnLaws.{length_columns, columns_show}
use Rattle.group_shares.specs.Spread.{Share, spread}
use Rattle.group_shares.specs.models.Sorted.{Below}
use Rattle.group_shares.proofs.SpreadLaws.{Within, spread_within}
use Rattle.page_lines.specs.PerCent.{tenths}
use Rattle.page_lines.specs.Line.{per_cent, line}
use Rattle.page_lines.specs.Told.{group_told, count_told, tenths_told, Tells, AllTell}
use Rattle.page_lines.proofs.PerCentLaws.{tenths_most}

-- ---- the parts of a line

module _ (all : ℕ) (s : Share) where
  abbrev p : List ℕ
  p = per_cent (tenths s.count all)

  -- behind the group and its space, behind the count and its
  pub behind_group : drop 11 (line all s) ≡ flush_right 6 s.count ++ (32 ∷ p ++ (10 ∷ []))
  unfolding line
  behind_group = sym (drop-drop 1 10 (line all s)) ∙ ap (drop 1) (drop_at (flush_right 10 s.group) (32 ∷ flush_right 6 s.count ++ (32 ∷ p ++ (10 ∷ []))) 10 (length_columns 10 s.group))

  pub behind_count : drop 18 (line all s) ≡ p ++ (10 ∷ [])
  unfolding line
  behind_count =
      sym (drop-drop 7 11 (line all s))
      ∙ ap (drop 7) behind_group
      ∙ sym (drop-drop 1 6 (flush_right 6 s.count ++ (32 ∷ p ++ (10 ∷ []))))
      ∙ ap (drop 1) (drop_at (flush_right 6 s.count) (32 ∷ p ++ (10 ∷ [])) 6 (length_columns 6 s.count))

  group-told : s.group < 10 ^ 10 → group_told (line all s) ≡ s.group
  unfolding line
  group-told h = ap shown (take_at (flush_right 10 s.group) _ 10 (length_columns 10 s.group)) ∙ columns_show 10 s.group h

  count-told : s.count < 10 ^ 6 → count_told (line all s) ≡ s.count
  count-told h = ap (λ (l : List ℕ). shown (take 6 l)) behind_group ∙ ap shown (take_at (flush_right 6 s.count) _ 6 (length_columns 6 s.count)) ∙ columns_show 6 s.count h

  -- ---- the per cent

  -- the whole, the point, the tenth
  pub parts : drop 18 (line all s) ≡ flush_right 4 (tenths s.count all / 10) ++ (46 ∷ digit_byte (tenths s.count all) 0 ∷ 10 ∷ [])
  unfolding per_cent
  parts = behind_count ∙ append_assoc (flush_right 4 (tenths s.count all / 10)) (46 ∷ digit_byte (tenths s.count all) 0 ∷ []) (10 ∷ [])

  whole-told : tenths s.count all / 10 < 10 ^ 4 → shown (take 4 (drop 18 (line all s))) ≡ tenths s.count all / 10
  whole-told h =
      let t = tenths s.count all in
      ap (λ (l : List ℕ). shown (take 4 l)) parts ∙ ap shown (take_at (flush_right 4 (t / 10)) _ 4 (length_columns 4 (t / 10))) ∙ columns_show 4 (t / 10) h

  pub tenth-told : get_or (line all s) 23 0 ≡ 48 + tenths s.count all % 10
  unfolding digit_byte
  tenth-told =
      let t = tenths s.count all in
      let f = flush_right 4 (t / 10) in
      let e : 4 + 1 ≡ 5 = refl in
      sym (get_or-drop 18 (line all s) 5 0)
      ∙ ap (λ (l : List ℕ). get_or l 5 0) parts
      ∙ sym (get_or-drop 4 (f ++ (46 ∷ digit_byte t 0 ∷ 10 ∷ [])) 1 0)
      ∙ ap (λ (l : List ℕ). get_or l 1 0) (drop_at f (46 ∷ digit_byte t 0 ∷ 10 ∷ []) 4 (length_columns 4 (t / 10)))
      ∙ ap (λ (q : ℕ). 48 + t / q % 10) (pow-zero 10)
      ∙ ap (λ (q : ℕ). 48 + q % 10) (div-one t)

  per_cent-told : tenths s.count all ≤ 1000 → tenths_told (line all s) ≡ tenths s.count all
  per_cent-told h =
      let t = tenths s.count all in
      omega (arith, whole-told (omega arith), tenth-told)

  -- a group of at most 10 digits, with so many of all candidates
  line_tells : s.group < 10000000000 → s.count ≤ 4096 → 0 < all → s.count ≤ all → Tells all s
  line_tells g c h l = record { group = group-told g; count = count-told (omega arith); per_cent = per_cent-told (tenths_most s.count all h l) }

-- ---- the lines of a page

-- no numbering has a greater group than 4,294,967,296 + 256 × 255 + 255
pub lines_tell : (all : ℕ) (ss : List Share) → 0 < all → all ≤ 4096 → Within 4295032831 all ss → AllTell all ss
lines_tell all [] h m w = tt
lines_tell all (s ∷ ss) h m w = (line_tells all s (omega (arith, w.0)) (omega (arith, w.1)) h w.1, lines_tell all ss h m w.2)

-- the page of a list whose groups are none greater
pub page_tells : (gs : List ℕ) → length gs ≤ 4096 → Below 4295032831 gs → AllTell (length gs) (spread gs)
page_tells [] h b = tt
page_tells (g ∷ gs) h b = lines_tell (length (g ∷ gs)) (spread (g ∷ gs)) (omega arith) h (spread_within 4295032831 (g ∷ gs) b)
