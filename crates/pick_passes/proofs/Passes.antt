-- The first pass where the loop stands: what one candidate more does, and when it is over.
-- Assumes nothing.
use mathlib.Core.Path.{◌≡◌, ◌∙◌, refl, sym, ap, subst}
use mathlib.Core.List.{List, [], ◌∷◌, ◌++◌}
use mathlib.Core.Bool.{Bool, true, false, cond}
use Prim.Native.Nat.{ℕ, ◌+◌, ◌*◌, ◌≤◌, ◌<◌}
use native.Mathlib.Omega.{arith}
use native.Mathlib.Numerals.{add-one}
use borrow.Author.Tests.{lt-ltb, le-ltb}
use lib.Dec.{ltb}
use lib.ListN.{length, take, drop, get_or, set, length-append, length-set}
use lib.Seq.{take-suc, length-take-le}
use Rattle.free_groups.specs.Free.{free}
use Rattle.pick_passes.specs.First.{Pass, begin, take_next, pass_over, examine, pass_from, first_pass}
use Rattle.pick_passes.specs.models.Places.{Places}
use Rattle.pick_passes.specs.Ranked.{sum}
use Rattle.pick_passes.specs.models.Passed.{Passed}
use Rattle.peer_lists.proofs.Lists.{ahead, ended}
use Rattle.pick_passes.proofs.Placing.{places_none, places_more, places_snoc}
use Rattle.pick_passes.proofs.Outputs.{front_snoc, past-kept, front_written}

-- what the pass has, read off the outputs
abbrev pub passed : List ℕ → List ℕ → ℕ → ℕ → Pass
passed picks groups taken i = record { places = take taken picks; groups = take taken groups; examined = i }

module _ (occupied : List ℕ) (max : ℕ) where
  pub pass_full : (s : Pass) (gs : List ℕ) → max ≤ length s.groups → pass_from occupied max s gs ≡ s
  pass_full s [] h = refl
  pass_full s (g ∷ gs) h = rw (le-ltb (length s.groups) max h)

  pub pass-done : (s : Pass) (gs : List ℕ) (i : ℕ) → length gs ≤ i → pass_from occupied max s (drop i gs) ≡ s
  pass-done s gs i h = rw (ended gs i h)

  pub pass_on : (s : Pass) (gs : List ℕ) (i : ℕ) → i < length gs → length s.groups < max
      → pass_from occupied max s (drop i gs) ≡ pass_from occupied max (examine occupied (get_or gs i 0) s) (drop (i + 1) gs)
  pass_on s gs i h k = rw (ahead gs i 0 h, lt-ltb (length s.groups) max k)

-- a candidate of a free group is taken: its place and its group go out
pub examine_free : (occupied picks groups : List ℕ) (taken i g : ℕ) → taken < length picks → taken < length groups
    → true ≡ free occupied (take taken groups) g
    → examine occupied g (passed picks groups taken i) ≡ passed (set picks taken i) (set groups taken g) (taken + 1) (i + 1)
examine_free occupied picks groups taken i g h k e = rw (← e, front_snoc picks taken i h, front_snoc groups taken g k)

pub examine_other : (occupied picks groups : List ℕ) (taken i g : ℕ) → false ≡ free occupied (take taken groups) g
    → examine occupied g (passed picks groups taken i) ≡ passed picks groups taken (i + 1)
examine_other occupied picks groups taken i g e = rw (← e)

-- one count more
sum-append : (xs : List ℕ) (x : ℕ) → sum (xs ++ (x ∷ [])) ≡ sum xs + x
sum-append [] x = omega arith
sum-append (y ∷ ys) x = omega (arith, sum-append ys x)

pub sum_on : (xs : List ℕ) (i : ℕ) → i < length xs → sum (take (i + 1) xs) ≡ sum (take i xs) + get_or xs i 0
sum_on xs i h = rw (add-one i, take-suc xs i 0 h) (sum-append (take i xs) (get_or xs i 0))

-- the places taken are places examined, none twice
examine_places : (occupied : List ℕ) (g : ℕ) (s : Pass) → Places s.examined s.places → Places (s.examined + 1) (examine occupied g s).places
examine_places occupied g s w = go (free occupied s.groups g)
  where
    go : (b : Bool) → Places (s.examined + 1) (cond b (take_next g s) (pass_over s)).places
    go true = places_snoc (s.examined + 1) s.places s.examined (omega arith) (w.below s.examined (omega arith)) (places_more s.examined (s.examined + 1) s.places (omega arith) w)
    go false = places_more s.examined (s.examined + 1) s.places (omega arith) w

pub examine_count : (occupied : List ℕ) (g : ℕ) (s : Pass) → (examine occupied g s).examined ≡ s.examined + 1
examine_count occupied g s = go (free occupied s.groups g)
  where
    go : (b : Bool) → (cond b (take_next g s) (pass_over s)).examined ≡ s.examined + 1
    go true = refl
    go false = refl

pub pass_places : (occupied : List ℕ) (max n : ℕ) (s : Pass) (gs : List ℕ) → s.examined + length gs ≤ n → Places s.examined s.places → Places n (pass_from occupied max s gs).places
pass_places occupied max n s [] h w = places_more s.examined n s.places (omega arith) w
pass_places occupied max n s (g ∷ gs) h w =
    let e = examine_count occupied g s in
    go (ltb (length s.groups) max) (pass_places occupied max n (examine occupied g s) gs (omega arith) (rw e (examine_places occupied g s w)))
  where
    go : (b : Bool) → Places n (pass_from occupied max (examine occupied g s) gs).places → Places n (cond b (pass_from occupied max (examine occupied g s) gs) s).places
    go true v = v
    go false v = places_more s.examined n s.places (omega arith) w

pub first_places : (occupied : List ℕ) (max : ℕ) (gs : List ℕ) → Places (length gs) (first_pass occupied max gs).places
first_places occupied max gs = pass_places occupied max (length gs) begin gs (omega arith) (places_none 0)

-- as many groups as places
pub examine_even : (occupied : List ℕ) (g : ℕ) (s : Pass) → length s.places ≡ length s.groups → length (examine occupied g s).places ≡ length (examine occupied g s).groups
examine_even occupied g s e = go (free occupied s.groups g)
  where
    go : (b : Bool) → length (cond b (take_next g s) (pass_over s)).places ≡ length (cond b (take_next g s) (pass_over s)).groups
    go true = omega (arith, length-append s.places (s.examined ∷ []), length-append s.groups (g ∷ []))
    go false = e

pub pass_even : (occupied : List ℕ) (max : ℕ) (s : Pass) (gs : List ℕ) → length s.places ≡ length s.groups
    → length (pass_from occupied max s gs).places ≡ length (pass_from occupied max s gs).groups
pass_even occupied max s [] e = e
pass_even occupied max s (g ∷ gs) e = go (ltb (length s.groups) max) (pass_even occupied max (examine occupied g s) gs (examine_even occupied g s e))
  where
    go : (b : Bool) → length (pass_from occupied max (examine occupied g s) gs).places ≡ length (pass_from occupied max (examine occupied g s) gs).groups
        → length (cond b (pass_from occupied max (examine occupied g s) gs) s).places ≡ length (cond b (pass_from occupied max (examine occupied g s) gs) s).groups
    go true v = v
    go false v = e

pub first_even : (occupied : List ℕ) (max : ℕ) (gs : List ℕ) → length (first_pass occupied max gs).places ≡ length (first_pass occupied max gs).groups
first_even occupied max gs = pass_even occupied max begin gs refl

-- where the loop stands
pub record Passing (occupied : List ℕ) (max : ℕ) (gs counts picks₀ groups₀ picks groups : List ℕ) (taken instructions i : ℕ) : Type 0 where
  pub few : taken ≤ i
  pub fit_picks : taken ≤ length picks
  pub fit_groups : taken ≤ length groups
  pub rest : first_pass occupied max gs ≡ pass_from occupied max (passed picks groups taken i) (drop i gs)
  pub long_picks : length picks ≡ length picks₀
  pub long_groups : length groups ≡ length groups₀
  pub past_picks : drop taken picks ≡ drop taken picks₀
  pub past_groups : drop taken groups ≡ drop taken groups₀
  pub read : instructions ≡ sum (take i counts)
  pub small : instructions ≤ 4294967295 * i

module _ (occupied : List ℕ) (max : ℕ) (gs counts picks₀ groups₀ : List ℕ) where
  pub passing_start : Passing occupied max gs counts picks₀ groups₀ picks₀ groups₀ 0 0 0
  passing_start = record { few = omega arith; fit_picks = omega arith; fit_groups = omega arith; rest = refl; long_picks = refl; long_groups = refl; past_picks = refl; past_groups = refl; read = refl; small = omega arith }

  module _ (picks groups : List ℕ) (taken instructions i g k : ℕ) (s : Passing occupied max gs counts picks₀ groups₀ picks groups taken instructions i)
      (inside : i < length gs) (counted : i < length counts) (some : taken < max)
      (group_is : g ≡ get_or gs i 0) (count_is : k ≡ get_or counts i 0) (count_fits : k ≤ 4294967295) where
    stepped : first_pass occupied max gs ≡ pass_from occupied max (examine occupied g (passed picks groups taken i)) (drop (i + 1) gs)
    stepped =
        s.rest ∙ pass_on occupied max (passed picks groups taken i) gs i inside (omega (arith, length-take-le taken groups s.fit_groups))
        ∙ ap (λ (x : ℕ). pass_from occupied max (examine occupied x (passed picks groups taken i)) (drop (i + 1) gs)) (sym group_is)

    counted_on : instructions + k ≡ sum (take (i + 1) counts)
    counted_on = omega (arith, sum_on counts i counted, s.read)

    pub passing_take : taken < length picks → taken < length groups → true ≡ free occupied (take taken groups) g
        → Passing occupied max gs counts picks₀ groups₀ (set picks taken i) (set groups taken g) (taken + 1) (instructions + k) (i + 1)
    passing_take p q f = record {
      few = omega (arith, s.few);
      fit_picks = omega (arith, length-set picks taken i);
      fit_groups = omega (arith, length-set groups taken g);
      rest = stepped ∙ ap (λ (x : Pass). pass_from occupied max x (drop (i + 1) gs)) (examine_free occupied picks groups taken i g p q f);
      long_picks = length-set picks taken i ∙ s.long_picks;
      long_groups = length-set groups taken g ∙ s.long_groups;
      past_picks = past-kept picks picks₀ taken i s.past_picks;
      past_groups = past-kept groups groups₀ taken g s.past_groups;
      read = counted_on;
      small = omega (arith, s.small);
    }

    pub passing_over : false ≡ free occupied (take taken groups) g
        → Passing occupied max gs counts picks₀ groups₀ picks groups taken (instructions + k) (i + 1)
    passing_over f = record {
      few = omega (arith, s.few);
      fit_picks = s.fit_picks;
      fit_groups = s.fit_groups;
      rest = stepped ∙ ap (λ (x : Pass). pass_from occupied max x (drop (i + 1) gs)) (examine_other occupied picks groups taken i g f);
      long_picks = s.long_picks;
      long_groups = s.long_groups;
      past_picks = s.past_picks;
      past_groups = s.past_groups;
      read = counted_on;
      small = omega (arith, s.small);
    }

  -- where it ends, the outputs hold what the pass has
  module _ (picks groups : List ℕ) (taken instructions i : ℕ) (s : Passing occupied max gs counts picks₀ groups₀ picks groups taken instructions i) where
    over : first_pass occupied max gs ≡ passed picks groups taken i
        → Passed (first_pass occupied max gs) (sum (take (first_pass occupied max gs).examined counts)) picks₀ groups₀ (record { taken = taken; examined = i; instructions = instructions }) picks groups
    over e = rw e (record {
      taken = sym (length-take-le taken picks s.fit_picks);
      examined = refl;
      instructions = s.read;
      picks = front_written picks picks₀ taken s.fit_picks s.past_picks;
      groups = front_written groups groups₀ taken s.fit_groups s.past_groups;
    })

    pub passing_full : max ≤ taken
        → Passed (first_pass occupied max gs) (sum (take (first_pass occupied max gs).examined counts)) picks₀ groups₀ (record { taken = taken; examined = i; instructions = instructions }) picks groups
    passing_full h = over (s.rest ∙ pass_full occupied max (passed picks groups taken i) (drop i gs) (omega (arith, length-take-le taken groups s.fit_groups)))

    pub passing_done : (n : ℕ) → i ≡ n → length gs ≤ i
        → Passed (first_pass occupied max gs) (sum (take (first_pass occupied max gs).examined counts)) picks₀ groups₀ (record { taken = taken; examined = n; instructions = instructions }) picks groups
    passing_done n e h =
        subst (λ (x : ℕ). Passed (first_pass occupied max gs) (sum (take (first_pass occupied max gs).examined counts)) picks₀ groups₀ (record { taken = taken; examined = x; instructions = instructions }) picks groups) e
        (over (s.rest ∙ pass-done occupied max (passed picks groups taken i) gs i h))
