-- What the occupied scan comes to, by where the first hit stands; and what a hit, its place and its count tell.
-- Assumes nothing.
use mathlib.Core.Path.{◌≡◌, ◌∙◌, refl, sym, ap}
use mathlib.Core.Bool.{Bool, true, false, cond}
use mathlib.Core.List.{List, [], ◌∷◌, ◌++◌}
use Prim.Native.Nat.{ℕ, zero, suc, ◌+◌, ◌≤◌, ◌<◌}
use native.Mathlib.Omega.{arith}
use native.Mathlib.Decide.{ℕ_discrete}
use native.Mathlib.Numerals.{add-one}
use borrow.Author.Tests.{lt-ltb, le-ltb}
use lib.ListN.{length, take, drop, get_or, take-append-drop, length-append}
use lib.Seq.{length-take-le}
use Rattle.group_lists.specs.Groups.{has}
use Rattle.group_lists.specs.Scan.{in_front, scanned, scan_of}
use Rattle.group_lists.proofs.Scans.{front-first, front-next, front_most, front_here, front_on, has_front}
use Rattle.group_lists.specs.Scanned.{Hit, Missed}
use Rattle.refusals.specs.declared.Refusal.TheVariants as refusal
use Rattle.std.specs.Prelude.{Result, Ok, Err, Option, Some, None}
use Rattle.refusals.specs.declared.Refusal.{Refusal}
use Rattle.group_lists.specs.declared.Scan.{Scan}

module _ (g : ℕ) (gs : List ℕ) where
  pub scan_refused : 4096 < length gs → scan_of g gs ≡ Err refusal.TooMany
  scan_refused h = rw (lt-ltb 4096 (length gs) h)

  pub scan-taken : length gs ≤ 4096 → scan_of g gs ≡ scanned g gs
  scan-taken h = rw (le-ltb 4096 (length gs) h)

  pub scanned_hit : in_front g gs < length gs → scanned g gs ≡ Hit (in_front g gs) (in_front g gs + 1)
  scanned_hit h = rw (has_front g gs, lt-ltb (in_front g gs) (length gs) h)

  pub scanned_missed : length gs ≤ in_front g gs → scanned g gs ≡ Missed (length gs)
  scanned_missed h = rw (has_front g gs, le-ltb (in_front g gs) (length gs) h)

-- what a scan says is so
abbrev hit_of : Result Scan Refusal → Option ℕ
hit_of (Ok scan) = scan.hit
hit_of (Err n) = None

abbrev read_of : Result Scan Refusal → ℕ
read_of (Ok scan) = scan.read
read_of (Err n) = 0

pub hit_or_missed : {A : Type 0} (p m n : ℕ) → Hit p m ≡ Missed n → A
hit_or_missed p m n e = let q : Some p ≡ None = ap hit_of e in absurd cc

pub same_hit : (p q m n : ℕ) → Hit p m ≡ Hit q n → (p ≡ q) × (m ≡ n)
same_hit p q m n e = let s : Some p ≡ Some q = ap hit_of e in (cc, ap read_of e)

module _ (x y z : ℕ) where
  if_hit : (b : Bool) (p n : ℕ) → cond b (Hit x y) (Missed z) ≡ Hit p n → b ≡ true
  if_hit true p n e = refl
  if_hit false p n e = hit_or_missed p n z (sym e)

  if_missed : (b : Bool) (n : ℕ) → cond b (Hit x y) (Missed z) ≡ Missed n → b ≡ false
  if_missed true n e = hit_or_missed x y n e
  if_missed false n e = refl

  never_refused : (b : Bool) (n : Refusal) → cond b (Hit x y) (Missed z) ≡ Err n → ⊥
  never_refused true n e = cc
  never_refused false n e = cc

module _ (g : ℕ) (gs : List ℕ) (few : length gs ≤ 4096) where
  pub hit_has : (p n : ℕ) → scan_of g gs ≡ Hit p n → has g gs ≡ true
  hit_has p n e = if_hit (in_front g gs) (in_front g gs + 1) (length gs) (has g gs) p n (sym (scan-taken g gs few) ∙ e)

  pub missed_has : (n : ℕ) → scan_of g gs ≡ Missed n → has g gs ≡ false
  missed_has n e = if_missed (in_front g gs) (in_front g gs + 1) (length gs) (has g gs) n (sym (scan-taken g gs few) ∙ e)

  pub not_refused : (n : Refusal) → scan_of g gs ≡ Err n → ⊥
  not_refused n e = never_refused (in_front g gs) (in_front g gs + 1) (length gs) (has g gs) n (sym (scan-taken g gs few) ∙ e)

-- the group stands where the hit is
pub front_at : (g : ℕ) (gs : List ℕ) → in_front g gs < length gs → get_or gs (in_front g gs) 0 ≡ g
front_at g [] h = absurd (omega arith)
front_at g (x ∷ gs) h = go (ℕ_discrete g x) (front_at g gs)
  where
    go : Dec (g ≡ x) → (in_front g gs < length gs → get_or gs (in_front g gs) 0 ≡ g) → get_or (x ∷ gs) (in_front g (x ∷ gs)) 0 ≡ g
    go (yes e) ih = rw (front-first g x gs e) (sym e)
    go (no e) ih = ap (λ (k : ℕ). get_or (x ∷ gs) k 0) (front-next g x gs e ∙ add-one (in_front g gs)) ∙ ih (omega (arith, front-next g x gs e))

-- and at no place in front of it
pub front-before : (g : ℕ) (gs : List ℕ) (q : ℕ) → q < in_front g gs → get_or gs q 0 ≡ g → ⊥
front-before g [] q h = absurd (omega arith)
front-before g (x ∷ gs) q h = go (ℕ_discrete g x) q h (front-before g gs)
  where
    go : Dec (g ≡ x) → (q : ℕ) → q < in_front g (x ∷ gs) → ((k : ℕ) → k < in_front g gs → get_or gs k 0 ≡ g → ⊥) → get_or (x ∷ gs) q 0 ≡ g → ⊥
    go (yes e) q h ih z = absurd (omega (arith, front-first g x gs e))
    go (no e) zero h ih z = e (sym z)
    go (no e) (suc q) h ih z = ih q (omega (arith, front-next g x gs e)) z

-- the groups up to the hit decide, whatever stands behind it
module _ (g : ℕ) (gs others : List ℕ) (h : in_front g gs < length gs) where
  abbrev read : List ℕ
  read = take (in_front g gs + 1) gs

  long : length read ≡ in_front g gs + 1
  long = length-take-le (in_front g gs + 1) gs (omega arith)

  front_read : in_front g read ≡ in_front g gs
  front_read = go (ℕ_discrete (in_front g read) (length read))
    where
      whole : in_front g gs ≡ in_front g (read ++ drop (in_front g gs + 1) gs)
      whole = ap (in_front g) (sym (take-append-drop (in_front g gs + 1) gs))

      go : Dec (in_front g read ≡ length read) → in_front g read ≡ in_front g gs
      go (yes e) = absurd (omega (arith, whole, long, front_on g read (drop (in_front g gs + 1) gs) (omega arith)))
      go (no e) = sym (whole ∙ front_here g read (drop (in_front g gs + 1) gs) (omega (arith, front_most g read)))

  pub hit-unread : scanned g (read ++ others) ≡ Hit (in_front g gs) (in_front g gs + 1)
  hit-unread =
      let e : in_front g (read ++ others) ≡ in_front g gs = front_here g read others (omega (arith, long, front_read)) ∙ front_read in
      scanned_hit g (read ++ others) (omega (arith, e, long, length-append read others)) ∙ ap (λ (p : ℕ). Hit p (p + 1)) e
