-- Request 4, the spread on a printed page, as a caller reads it off the bytes written (document 02, CR 4).
-- Assumes nothing.
use Rattle.std.specs.Prelude.{ℕ, zero, suc, ◌+◌, ◌*◌, ◌-◌, ◌/◌, ◌%◌, ◌^◌, ◌≤◌, ◌<◌, ◌≡◌, ◌≢◌, cond, List, [], ◌∷◌, eqb, ltb, length, take, drop, get_or}
use Rattle.demand_statements.specs.Picked.{each, walk_at, prefix_at, Ends}

-- how many of a list are g
unfoldable pub many : ℕ → List ℕ → ℕ
many g [] = 0
many g (x ∷ xs) = cond (eqb g x) (suc (many g xs)) (many g xs)

-- ---- numbers in columns

-- "right-aligned": the column of n with k columns to its right has a digit, from 48 on, where n has one so far left; else a space, 32
unfoldable pub column : ℕ → ℕ → ℕ
column n zero = 48 + n % 10
column n (suc k) = cond (ltb n (10 ^ suc k)) 32 (48 + n / 10 ^ suc k % 10)

-- what a person reads in columns, with v read so far: a space changes nothing, a digit goes behind
unfoldable pub read_in : ℕ → List ℕ → ℕ
read_in v [] = v
read_in v (b ∷ bs) = read_in (cond (eqb b 32) v (10 * v + (b - 48))) bs

-- ---- a line and a page; p: the bytes written

-- the line from place `at` on, of a group with n of all candidates, which are t tenths of a per cent
pub record Line (p : List ℕ) (at group n t : ℕ) : Type 0 where
  pub group_columns : (j : ℕ) → j < 10 → get_or p (at + j) 0 ≡ column group (9 - j)
  pub space : get_or p (at + 10) 0 ≡ 32
  pub count_columns : (j : ℕ) → j < 6 → get_or p (at + (11 + j)) 0 ≡ column n (5 - j)
  pub second_space : get_or p (at + 17) 0 ≡ 32
  pub whole_columns : (j : ℕ) → j < 4 → get_or p (at + (18 + j)) 0 ≡ column (t / 10) (3 - j)
  pub point : get_or p (at + 22) 0 ≡ 46
  pub tenth : get_or p (at + 23) 0 ≡ 48 + t % 10
  pub line_feed : get_or p (at + 24) 0 ≡ 10
  -- the columns are wide enough
  pub group_read : read_in 0 (take 10 (drop at p)) ≡ group
  pub count_read : read_in 0 (take 6 (drop (at + 11) p)) ≡ n

-- "100 × candidates of the group / all, rounded to a tenth, halves up": t thousandths are nearest to n of all, and from a half on the upper ones
pub record Rounded (n all t : ℕ) : Type 0 where
  pub not_over : 2 * (all * t) ≤ 2000 * n + all
  pub not_under : 2000 * n + all < 2 * (all * t) + 2 * all

-- gs: the groups of all candidates. Line k is of the group `groups k`: these rise, so no two are the same; each is of a candidate, and each
-- candidate's is among them; a line tells how many have it.
pub record Printed (gs p : List ℕ) : Type 0 where
  pub lines : ℕ
  pub groups : ℕ → ℕ
  pub tenths : ℕ → ℕ
  pub long : length p ≡ 25 * lines
  pub rising : (k : ℕ) → suc k < lines → groups k < groups (suc k)
  pub some : (k : ℕ) → k < lines → 0 < many (groups k) gs
  pub every : (i : ℕ) → i < length gs → (k : ℕ) × (k < lines) × (groups k ≡ get_or gs i 0)
  pub line : (k : ℕ) → k < lines → Line p (25 * k) (groups k) (many (groups k) gs) (tenths k)
  pub rounded : (k : ℕ) → k < lines → Rounded (many (groups k) gs) (length gs) (tenths k)

-- ---- the call

-- With a map the groups are the numbers of the candidates' defined walks, none of which aborts.
pub record PrintedByMap (m candidates p : List ℕ) : Type 0 where
  pub printed : Printed (each (length candidates / 20) (λ (i : ℕ). (walk_at m candidates i).number)) p
  pub ends : (i : ℕ) → i < length candidates / 20 → Ends (walk_at m candidates i)

-- Without one they are the prefixes. `has` is 0 without a map.
pub record Paged (has : ℕ) (m candidates p : List ℕ) : Type 0 where
  pub by_map : has ≢ 0 → PrintedByMap m candidates p
  pub by_prefix : has ≡ 0 → Printed (each (length candidates / 20) (prefix_at candidates)) p
