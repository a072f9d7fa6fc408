-- The second pass where the loop stands.
-- Assumes nothing.
use mathlib.Core.Path.{◌≡◌, ◌∙◌, refl, sym, ap}
use mathlib.Core.List.{List, [], ◌∷◌, ◌++◌}
use mathlib.Core.Bool.{Bool, true, false, cond, ◌||◌, true≢false}
use Prim.Native.Nat.{ℕ, ◌+◌, ◌≤◌, ◌<◌}
use native.Mathlib.Omega.{arith}
use native.Mathlib.Decide.{ℕ_discrete}
use borrow.Author.Tests.{eq-eqb, ne_eqb, lt-ltb, le-ltb}
use lib.Dec.{ltb}
use lib.ListN.{length, take, drop, get_or, set, length-append, length-set}
use Rattle.candidate_bytes.specs.Candidate.{same}
use Rattle.pick_passes.specs.Fill.{picked, pick_unequal, fill_from, fill}
use Rattle.pick_passes.specs.models.Places.{times, Places}
use Rattle.peer_lists.proofs.Lists.{ahead, ended}
use Rattle.pick_passes.proofs.Outputs.{front_snoc, past-kept, front_written}
use Rattle.pick_passes.proofs.Placing.{places-few, places_snoc}
use Rattle.pick_passes.specs.models.Passed.{Filled}
use lib.Seq.{length-take-le}
use Rattle.pick_passes.proofs.Beginnings.{Begins, begins_self, begins_snoc, begins_trans}

same_self : (xs : List ℕ) → same xs xs ≡ true
same_self [] = refl
same_self (x ∷ xs) = rw (eq-eqb x x refl, same_self xs)

or-false_left : (a b : Bool) → (a || b) ≡ false → a ≡ false
or-false_left true b e = e
or-false_left false b e = refl

or-false_right : (a b : Bool) → (a || b) ≡ false → b ≡ false
or-false_right true b e = absurd (true≢false e)
or-false_right false b e = e

-- a candidate unequal to every pick lies at a place that is not picked
pub unequal_new : (all : List (List ℕ)) (ps : List ℕ) (i : ℕ) → picked all ps (get_or all i []) ≡ false → times i ps ≡ 0
unequal_new all [] i e = refl
unequal_new all (p ∷ ps) i e = go (ℕ_discrete i p) (unequal_new all ps i (or-false_right (same (get_or all p []) (get_or all i [])) _ e))
  where
    go : Dec (i ≡ p) → times i ps ≡ 0 → times i (p ∷ ps) ≡ 0
    go (yes q) z =
        let f : same (get_or all p []) (get_or all p []) ≡ false =
        ap (λ (x : ℕ). same (get_or all p []) (get_or all x [])) (sym q) ∙ or-false_left (same (get_or all p []) (get_or all i [])) (picked all ps (get_or all i [])) e in
        absurd (true≢false (sym (same_self (get_or all p [])) ∙ f))
    go (no q) z = rw (ne_eqb i p q) (omega arith)

-- one pick more compared
module _ (all : List (List ℕ)) (ps : List ℕ) (c : List ℕ) (j : ℕ) (h : j < length ps) where
  pub picked_here : same (get_or all (get_or ps j 0) []) c ≡ true → picked all (drop j ps) c ≡ true
  picked_here e = rw (ahead ps j 0 h, e)

  pub picked_on : same (get_or all (get_or ps j 0) []) c ≡ false → picked all (drop j ps) c ≡ picked all (drop (j + 1) ps) c
  picked_on e = rw (ahead ps j 0 h, e)

pub picked-done : (all : List (List ℕ)) (ps : List ℕ) (c : List ℕ) (j : ℕ) → length ps ≤ j → picked all (drop j ps) c ≡ false
picked-done all ps c j h = rw (ended ps j h)

-- one candidate more
module _ (all : List (List ℕ)) (max : ℕ) where
  pub fill_full : (ps : List ℕ) (place : ℕ) (cs : List (List ℕ)) → max ≤ length ps → fill_from all max ps place cs ≡ ps
  fill_full ps place [] h = refl
  fill_full ps place (c ∷ cs) h = rw (le-ltb (length ps) max h)

  pub fill_done : (ps : List ℕ) (i : ℕ) → length all ≤ i → fill_from all max ps i (drop i all) ≡ ps
  fill_done ps i h = rw (ended all i h)

  pub fill_on : (ps : List ℕ) (i : ℕ) → i < length all → length ps < max
      → fill_from all max ps i (drop i all) ≡ fill_from all max (pick_unequal all i (get_or all i []) ps) (i + 1) (drop (i + 1) all)
  fill_on ps i h k = rw (ahead all i [] h, lt-ltb (length ps) max k)

  -- it only adds
  pub pick-begins : (place : ℕ) (c ps : List ℕ) → Begins ps (pick_unequal all place c ps)
  pick-begins place c ps = go (picked all ps c)
    where
      go : (b : Bool) → Begins ps (cond b ps (ps ++ (place ∷ [])))
      go true = begins_self ps
      go false = begins_snoc ps place

  pub from-begins : (ps : List ℕ) (place : ℕ) (cs : List (List ℕ)) → Begins ps (fill_from all max ps place cs)
  from-begins ps place [] = begins_self ps
  from-begins ps place (c ∷ cs) = go (ltb (length ps) max) (from-begins (pick_unequal all place c ps) (place + 1) cs)
    where
      go : (b : Bool) → Begins (pick_unequal all place c ps) (fill_from all max (pick_unequal all place c ps) (place + 1) cs)
          → Begins ps (cond b (fill_from all max (pick_unequal all place c ps) (place + 1) cs) ps)
      go true h = begins_trans ps (pick_unequal all place c ps) _ (pick-begins place c ps) h
      go false h = begins_self ps

  pub fill_begins : (ps : List ℕ) → Begins ps (fill all max ps)
  fill_begins ps = from-begins ps 0 all

pub unequal_picked : (all : List (List ℕ)) (picks : List ℕ) (total i : ℕ) → total < length picks
    → picked all (take total picks) (get_or all i []) ≡ false
    → pick_unequal all i (get_or all i []) (take total picks) ≡ take (total + 1) (set picks total i)
unequal_picked all picks total i h e = rw (e, front_snoc picks total i h)

pub equal-passed : (all : List (List ℕ)) (ps : List ℕ) (i : ℕ) → picked all ps (get_or all i []) ≡ true
    → pick_unequal all i (get_or all i []) ps ≡ ps
equal-passed all ps i e = rw e

-- where the loop stands
pub record Filling (all : List (List ℕ)) (max taken : ℕ) (picks₀ picks : List ℕ) (total i : ℕ) : Type 0 where
  pub rest : fill all max (take taken picks₀) ≡ fill_from all max (take total picks) i (drop i all)
  pub long : length picks ≡ length picks₀
  pub fits : total ≤ length picks
  pub past : drop total picks ≡ drop total picks₀
  pub places : Places (length all) (take total picks)

module _ (all : List (List ℕ)) (max taken : ℕ) (picks₀ : List ℕ) where
  pub filling_start : taken ≤ length picks₀ → Places (length all) (take taken picks₀) → Filling all max taken picks₀ picks₀ taken 0
  filling_start h w = record { rest = refl; long = refl; fits = h; past = refl; places = w }

  module _ (picks : List ℕ) (total i : ℕ) (s : Filling all max taken picks₀ picks total i) where
    pub filling_few : total ≤ length all
    filling_few = omega (arith, places-few (length all) (take total picks) s.places, length-take-le total picks s.fits)

    stepped : i < length all → total < max
        → fill all max (take taken picks₀) ≡ fill_from all max (pick_unequal all i (get_or all i []) (take total picks)) (i + 1) (drop (i + 1) all)
    stepped h k = s.rest ∙ fill_on all max (take total picks) i h (omega (arith, length-take-le total picks s.fits))

    -- there is room for one more
    pub filling_room : i < length all → picked all (take total picks) (get_or all i []) ≡ false → total < length all
    filling_room h e =
        let w = places_snoc (length all) (take total picks) i h (unequal_new all (take total picks) i e) s.places in
        omega (arith, places-few (length all) (take total picks ++ (i ∷ [])) w, length-append (take total picks) (i ∷ []), length-take-le total picks s.fits)

    pub filling_pick : i < length all → total < max → total < length picks → picked all (take total picks) (get_or all i []) ≡ false
        → Filling all max taken picks₀ (set picks total i) (total + 1) (i + 1)
    filling_pick h k r e =
        record {
          rest = stepped h k ∙ ap (λ (x : List ℕ). fill_from all max x (i + 1) (drop (i + 1) all)) (unequal_picked all picks total i r e);
          long = length-set picks total i ∙ s.long;
          fits = omega (arith, length-set picks total i);
          past = past-kept picks picks₀ total i s.past;
          places = rw (front_snoc picks total i r) (places_snoc (length all) (take total picks) i h (unequal_new all (take total picks) i e) s.places);
        }

    pub filling_over : i < length all → total < max → picked all (take total picks) (get_or all i []) ≡ true
        → Filling all max taken picks₀ picks total (i + 1)
    filling_over h k e =
        record {
          rest = stepped h k ∙ ap (λ (x : List ℕ). fill_from all max x (i + 1) (drop (i + 1) all)) (equal-passed all (take total picks) i e);
          long = s.long;
          fits = s.fits;
          past = s.past;
          places = s.places;
        }

    over : fill all max (take taken picks₀) ≡ take total picks
        → Filled (fill all max (take taken picks₀)) picks₀ total picks
    over e = rw e (record { total = sym (length-take-le total picks s.fits); picks = front_written picks picks₀ total s.fits s.past })

    pub filling_full : max ≤ total
        → Filled (fill all max (take taken picks₀)) picks₀ total picks
    filling_full h = over (s.rest ∙ fill_full all max (take total picks) i (drop i all) (omega (arith, length-take-le total picks s.fits)))

    pub filling_done : length all ≤ i
        → Filled (fill all max (take taken picks₀)) picks₀ total picks
    filling_done h = over (s.rest ∙ fill_done all max (take total picks) i h)
