-- The check's verdict is Core's, for every map within the limit and every number of address bits: `verdict_of-bytes` of asmap_codes.
-- Assumes nothing.
use Prim.Native.Nat.{ℕ}
use mathlib.Core.Path.{◌≡◌, ◌∙◌, refl, sym, ap}
use mathlib.Core.List.{List}
use Rattle.asmap_program.specs.Check.{accepted}
use Rattle.asmap_program.proofs.Widths.{at_width_lem}
use Rattle.asmap_codes.proofs.CoreLaws.{verdict_of-bytes}
use Rattle.asmap_check.specs.Check.{check_of, check_at, LikeCore, LikeCoreAt}
use Rattle.asmap_check.proofs.Limit.{checked}
use Rattle.asmap_program.specs.Verdict.{Verdict}
use Rattle.asmap_program.specs.declared.Accepted as struct
use Rattle.refusals.specs.declared.Refusal.{Refusal}
use Rattle.refusals.specs.Numbers.{of_map}
use Rattle.std.specs.Prelude.{Result, Ok, Err}

pub like_core : (m : List ℕ) (w : ℕ) (r : Verdict) → r ≡ check_of m w → LikeCore m w r
like_core m w r e h = verdict_of-bytes m w ∙ ap accepted (checked m w h ∙ sym e)

-- whatever the name of what is wrong, it accepts the same
of_map-accepts : (v : Verdict) → accepted v ≡ accepted (of_map v)
of_map-accepts (Ok got) = refl
of_map-accepts (Err f) = refl

-- at 32 and at 128
pub like_core_at : (m : List ℕ) (w : ℕ) (r : Result struct.Accepted Refusal) → r ≡ check_at m w → LikeCoreAt m w r
like_core_at m w r e t h =
    like_core m w (check_of m w) refl h ∙ of_map-accepts (check_of m w) ∙ ap accepted (sym (e ∙ at_width_lem w Err (of_map (check_of m w)) t))
