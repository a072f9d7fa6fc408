-- Lines and pages computed: exact halves, one group of all, groups of one digit and of ten, a list in any order, and none.
-- Assumes nothing.
use Prim.Native.Nat.{ℕ}
use mathlib.Core.Path.{◌≡◌, refl}
use mathlib.Core.List.{[], ◌∷◌, map}
use Rattle.decimal_columns.specs.Columns.{digit_byte, column_byte, flush_right}
use Rattle.group_shares.specs.Spread.{share}
use Rattle.page_lines.specs.PerCent.{rounded, tenths}
use Rattle.page_lines.specs.Line.{per_cent, line, page_of}

-- 1, 3, 5 and 7 of 16 are 6.25, 18.75, 31.25 and 43.75 per cent
sixteenths : map (λ (part : ℕ). tenths part 16) (1 ∷ 3 ∷ 5 ∷ 7 ∷ []) ≡ 63 ∷ 188 ∷ 313 ∷ 438 ∷ []
unfolding tenths rounded
sixteenths = refl

-- 2 and 6 of 32, 1 of 80, 1 of 2,000
halves : tenths 2 32 ∷ tenths 6 32 ∷ tenths 1 80 ∷ tenths 1 2000 ∷ [] ≡ 63 ∷ 188 ∷ 13 ∷ 1 ∷ []
unfolding tenths rounded
halves = refl

-- just below a half, and just above
beside : tenths 1 2001 ∷ tenths 1 1999 ∷ tenths 1 4096 ∷ tenths 4095 4096 ∷ [] ≡ 0 ∷ 1 ∷ 0 ∷ 1000 ∷ []
unfolding tenths rounded
beside = refl

-- "One of 16 prints 6.3", here of group 258
one_of_sixteen : line 16 (share 258 1) ≡ 32 ∷ 32 ∷ 32 ∷ 32 ∷ 32 ∷ 32 ∷ 32 ∷ 50 ∷ 53 ∷ 56 ∷ 32 ∷ 32 ∷ 32 ∷ 32 ∷ 32 ∷ 32 ∷ 49 ∷ 32 ∷ 32 ∷ 32 ∷ 32 ∷ 54 ∷ 46 ∷ 51 ∷ 10 ∷ []
unfolding line per_cent tenths rounded flush_right column_byte digit_byte
one_of_sixteen = refl

-- the greatest group that document 02 has, 4,295,032,831, with all of 4,096
all_of_them : line 4096 (share 4295032831 4096) ≡ 52 ∷ 50 ∷ 57 ∷ 53 ∷ 48 ∷ 51 ∷ 50 ∷ 56 ∷ 51 ∷ 49 ∷ 32 ∷ 32 ∷ 32 ∷ 52 ∷ 48 ∷ 57 ∷ 54 ∷ 32 ∷ 32 ∷ 49 ∷ 48 ∷ 48 ∷ 46 ∷ 48 ∷ 10 ∷ []
unfolding line per_cent tenths rounded flush_right column_byte digit_byte
all_of_them = refl

-- three candidates in two groups, the greater first
three : page_of (772 ∷ 0 ∷ 772 ∷ []) ≡ 32 ∷ 32 ∷ 32 ∷ 32 ∷ 32 ∷ 32 ∷ 32 ∷ 32 ∷ 32 ∷ 48 ∷ 32 ∷ 32 ∷ 32 ∷ 32 ∷ 32 ∷ 32 ∷ 49 ∷ 32 ∷ 32 ∷ 32 ∷ 51 ∷ 51 ∷ 46 ∷ 51 ∷ 10 ∷ 32 ∷ 32 ∷ 32 ∷ 32 ∷ 32 ∷ 32 ∷ 32 ∷ 55 ∷ 55 ∷ 50 ∷ 32 ∷ 32 ∷ 32 ∷ 32 ∷ 32 ∷ 32 ∷ 50 ∷ 32 ∷ 32 ∷ 32 ∷ 54 ∷ 54 ∷ 46 ∷ 55 ∷ 10 ∷ []
unfolding line per_cent tenths rounded flush_right column_byte digit_byte
three = refl

none : page_of [] ≡ []
none = refl
