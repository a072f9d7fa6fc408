-- What the occupied scan hands out, in plain numbers: by where the first hit stands.
-- Assumes nothing.
use Prim.Native.Nat.{ℕ, ◌+◌, ◌-◌, ◌≤◌, ◌<◌}
use mathlib.Core.Path.{◌≡◌, ◌∙◌, ap}
use mathlib.Core.Logic.{inl, inr}
use mathlib.Core.List.{List, [], ◌∷◌}
use native.Mathlib.Omega.{arith}
use native.Mathlib.Decide.{ℕ_discrete}
use lib.ListN.{length, get_or}
use Rattle.group_lists.specs.Scan.{in_front, scan_of}
use Rattle.group_lists.proofs.Scans.{front_most}
use Rattle.group_lists.proofs.ScanLaws.{scan_refused, scan-taken, scanned_hit, scanned_missed, front_at, front-before}
use Rattle.answer_outcome.specs.Outcome.{handed, IsDone, Hands}
use Rattle.answer_groups.specs.Groups.{scan_made}
use Rattle.demand_statements.specs.AnyInput.{Scans}

module _ (g : ℕ) (gs : List ℕ) {r found place read : ℕ} {entry : List ℕ} (h : Hands (scan_made (scan_of g gs)) r entry (found ∷ place ∷ read ∷ [])) where
  -- over 4,096 groups
  many : 4096 < length gs → Scans g gs r entry found place read
  unfolding handed scan_made IsDone
  many l =
      let e = rw (scan_refused g gs l) at h.numbers in
      let k : r ≡ 12 = cc in
      record {
        too_many = λ q. k;
        answered = λ q. absurd (omega arith);
        yes_or_no = λ z. absurd (omega arith);
        hit = λ z. absurd (omega arith);
        first = λ z. absurd (omega arith);
        none = λ z. absurd (omega arith);
        nowhere = λ z. absurd (omega arith);
        untouched = λ q. cc;
      }

  -- a hit, at the place that so many groups stand in front of
  here : length gs ≤ 4096 → in_front g gs < length gs → Scans g gs r entry found place read
  unfolding handed scan_made
  here l b =
      let e = rw (scan-taken g gs l ∙ scanned_hit g gs b) at h.numbers in
      let z : r ≡ 0 = cc in
      let f : found ≡ 1 = cc in
      let p : place ≡ in_front g gs = cc in
      let n : read ≡ in_front g gs + 1 = cc in
      record {
        too_many = λ q. absurd (omega arith);
        answered = λ q. z;
        yes_or_no = λ q. inr f;
        hit = λ q w. (omega arith, ap (λ (k : ℕ). get_or gs k 0) p ∙ front_at g gs b, omega arith);
        first = λ q w k s. front-before g gs k (omega arith);
        none = λ q w. absurd (omega arith);
        nowhere = λ q w. absurd (omega arith);
        untouched = λ q. absurd (q z);
      }

  -- no hit
  nowhere : length gs ≤ 4096 → length gs ≤ in_front g gs → Scans g gs r entry found place read
  unfolding handed scan_made
  nowhere l b =
      let e = rw (scan-taken g gs l ∙ scanned_missed g gs b) at h.numbers in
      let z : r ≡ 0 = cc in
      let f : found ≡ 0 = cc in
      let p : place ≡ 0 = cc in
      let n : read ≡ length gs = cc in
      record {
        too_many = λ q. absurd (omega arith);
        answered = λ q. z;
        yes_or_no = λ q. inl f;
        hit = λ q w. absurd (omega arith);
        first = λ q w. absurd (omega arith);
        none = λ q w. (p, n);
        nowhere = λ q w k s. front-before g gs k (omega arith);
        untouched = λ q. absurd (q z);
      }

  pub scans : Scans g gs r entry found place read
  scans = go (ℕ_discrete (length gs - 4096) 0) (ℕ_discrete (in_front g gs) (length gs))
    where
      go : Dec (length gs - 4096 ≡ 0) → Dec (in_front g gs ≡ length gs) → Scans g gs r entry found place read
      go (no q) w = many (omega arith)
      go (yes q) (yes w) = nowhere (omega arith) (omega arith)
      go (yes q) (no w) = here (omega arith) (omega (arith, front_most g gs))
