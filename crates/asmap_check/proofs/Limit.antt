-- The limit comes first: what the calls answer of a map that is over it, and of one within it what the loop comes to.
-- Assumes nothing.
use Prim.Native.Nat.{ℕ, ◌≤◌, ◌<◌}
use mathlib.Core.Path.{◌≡◌, refl, sym, ◌∙◌}
use mathlib.Core.Bool.{Bool, true, false}
use mathlib.Core.List.{List}
use native.Mathlib.Omega.{arith}
use borrow.Author.Tests.{lt-ltb, le-ltb, ltb-false}
use lib.Dec.{ltb}
use lib.ListN.{length}
use Rattle.asmap_program.specs.Check.{check}
use Rattle.asmap_program.proofs.Wider.{accepted_wider}
use Rattle.asmap_codes.specs.Instruction.{map_of}
use Rattle.asmap_check_run.specs.declared.Judged.{Judged}
use Rattle.asmap_check_run.specs.models.State.{judged}
use Rattle.asmap_check.specs.Check.{unless_long, check_of, wrong_of, stopped_of}
use Rattle.asmap_check.specs.models.Counted.{counted_as, counted_of}
use Rattle.asmap_program.specs.Verdict.{Accepted}
use Rattle.asmap_check.specs.Stop.{At}
use Rattle.refusals.specs.declared.Fault.TheVariants as fault
use Rattle.std.specs.Prelude.{Err}

module _ (m : List ℕ) (w : ℕ) where
  pub checked_long : 16777216 < length m → Err fault.MapTooLong ≡ check_of m w
  checked_long h = rw (lt-ltb 16777216 (length m) h)

  pub checked : length m ≤ 16777216 → check (map_of m) w ≡ check_of m w
  checked h = rw (le-ltb 16777216 (length m) h)

  pub stopped_long : 16777216 < length m → Err fault.MapTooLong ≡ stopped_of m w
  stopped_long h = rw (lt-ltb 16777216 (length m) h)

  pub stopped_at_lem : length m ≤ 16777216 → (j : Judged) → j ≡ judged m w → At (wrong_of j.verdict) j.place ≡ stopped_of m w
  stopped_at_lem h j e = rw (e, le-ltb 16777216 (length m) h)

  pub counted_long : 16777216 < length m → Err fault.MapTooLong ≡ counted_of m w
  counted_long h = rw (lt-ltb 16777216 (length m) h)

  pub counted_at : length m ≤ 16777216 → (j : Judged) → j ≡ judged m w → counted_as j.pieces j.verdict ≡ counted_of m w
  counted_at h j e = rw (e, le-ltb 16777216 (length m) h)

  -- an accepted map is within the limit
  pub accepted_within : (c d : ℕ) → check_of m w ≡ Accepted c d → (length m ≤ 16777216) × (check (map_of m) w ≡ Accepted c d)
  accepted_within c d e = go (ltb 16777216 (length m)) refl e
    where
      go : (b : Bool) → ltb 16777216 (length m) ≡ b → unless_long b (check (map_of m) w) ≡ Accepted c d → (length m ≤ 16777216) × (check (map_of m) w ≡ Accepted c d)
      go true h q = let z : ◌≡◌ {A = ℕ} 0 1 = cc in absurd (omega arith)
      go false h q = (ltb-false 16777216 (length m) h, q)

-- what is accepted at a width is accepted at every greater one, alike
pub accepted_at_more : (m : List ℕ) (w v c d : ℕ) → w ≤ v → check_of m w ≡ Accepted c d → check_of m v ≡ Accepted c d
accepted_at_more m w v c d h e =
    let s = accepted_within m w c d e in
    sym (checked m v s.0) ∙ (accepted_wider (map_of m) w v c d h s.1).0
