-- The occupied scan (document 02, CR 2): where a group first stands among the occupied groups, and how many of them were read.
-- Assumes nothing.
use Rattle.std.specs.Prelude.{ℕ, ◌+◌, cond, List, [], ◌∷◌, ◌++◌, ◌≡◌, eqb, length, take, Result, Err, Option, Some, None}
use Rattle.group_lists.specs.Groups.{has}
use Rattle.peer_lists.specs.Refusal.{too_many}
use Rattle.group_lists.specs.declared.Scan.{Scan}
use Rattle.group_lists.specs.Scanned.{Hit, Missed}
use Rattle.refusals.specs.declared.Refusal.{Refusal}

-- how many groups stand in front of the first hit, which is its place from 0; all of them, where there is none
abbrev pub in_front : ℕ → List ℕ → ℕ
in_front g [] = 0
in_front g (x ∷ xs) = cond (eqb g x) 0 (in_front g xs + 1)

-- the first hit's place, or none; and how many groups were read: that place plus one, or all
abbrev pub scanned : ℕ → List ℕ → Result Scan Refusal
scanned g occupied = cond (has g occupied) (Hit (in_front g occupied) (in_front g occupied + 1)) (Missed (length occupied))

-- a refusal comes before the scan
abbrev pub unless : Option Refusal → Result Scan Refusal → Result Scan Refusal
unless None s = s
unless (Some n) s = Err n

-- 12 for over 4,096 occupied groups
abbrev pub scan_of : ℕ → List ℕ → Result Scan Refusal
scan_of g occupied = unless (too_many (length occupied)) (scanned g occupied)

-- a scan that hit read no group past the hit: with any others behind it, it would have said the same
unfoldable pub Unread : ℕ → List ℕ → Result Scan Refusal → Type 0
Unread g occupied result = (place read : ℕ) → result ≡ Hit place read → (others : List ℕ) → scanned g (take read occupied ++ others) ≡ Hit place read
