-- What a line tells whoever reads it by its columns (document 02, CR 4): its numbers fit there, so that nothing of them is lost.
-- Assumes nothing.
use Rattle.std.specs.Prelude.{ℕ, ◌+◌, ◌*◌, ◌-◌, ◌≡◌, List, [], ◌∷◌, take, drop, get_or}
use Rattle.decimal_columns.specs.Columns.{shown}
use Rattle.group_shares.specs.Spread.{Share}
use Rattle.page_lines.specs.PerCent.{tenths}
use Rattle.page_lines.specs.Line.{line}

-- the group in the first 10 columns, the candidates in the 6 behind a space, the per cent in the 6 behind another, the tenth behind its point
abbrev pub group_told : List ℕ → ℕ
group_told l = shown (take 10 l)

abbrev pub count_told : List ℕ → ℕ
count_told l = shown (take 6 (drop 11 l))

abbrev pub tenths_told : List ℕ → ℕ
tenths_told l = 10 * shown (take 4 (drop 18 l)) + (get_or l 23 0 - 48)

-- the line of a share tells the share and its per cent
pub record Tells (all : ℕ) (s : Share) : Type 0 where
  pub group : group_told (line all s) ≡ s.group
  pub count : count_told (line all s) ≡ s.count
  pub per_cent : tenths_told (line all s) ≡ tenths s.count all

-- each of the lines does
abbrev pub AllTell : ℕ → List Share → Type 0
AllTell all [] = Unit {0}
AllTell all (s ∷ ss) = Tells all s × AllTell all ss
