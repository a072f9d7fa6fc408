-- A page and its lines (document 02, CR 4): "a line has the group right-aligned in 10 columns, a space, its candidates in 6, a space, the per cent
-- with one decimal in 6, and a line feed: 25 bytes".
-- Assumes nothing.
use Rattle.std.specs.Prelude.{ℕ, ◌/◌, List, [], ◌∷◌, ◌++◌, length}
use Rattle.decimal_columns.specs.Columns.{digit_byte, flush_right}
use Rattle.group_shares.specs.Spread.{Share, spread}
use Rattle.page_lines.specs.PerCent.{tenths}

-- the per cent in 6 columns: what is whole in 4, the point, 46, and the tenth
unfoldable pub per_cent : ℕ → List ℕ
per_cent t = flush_right 4 (t / 10) ++ (46 ∷ digit_byte t 0 ∷ [])

-- all: how many candidates there are; 32 is a space, 10 a line feed
unfoldable pub line : ℕ → Share → List ℕ
line all s = flush_right 10 s.group ++ (32 ∷ flush_right 6 s.count ++ (32 ∷ per_cent (tenths s.count all) ++ (10 ∷ [])))

abbrev pub lines : ℕ → List Share → List ℕ
lines all [] = []
lines all (s ∷ ss) = line all s ++ lines all ss

-- of the candidates' groups, in any order: a line for each group, "groups rise"
abbrev pub page_of : List ℕ → List ℕ
page_of groups = lines (length groups) (spread groups)
