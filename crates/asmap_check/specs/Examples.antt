-- Document 01, "Examples to hold to": the maps of its list, each with what the check answers over 128 address bits, and with the bit at which
-- it stops. `fb` is cut in an operand (document 02, CR 5: "fb now gives 19"); `8b`, which is not in the list, in an opcode.
-- Assumes nothing.
use Rattle.std.specs.Prelude.{ℕ, List, [], ◌∷◌, Err}
use Rattle.asmap_program.specs.Verdict.{Accepted, Verdict}
use Rattle.refusals.specs.declared.Fault.TheVariants as fault

abbrev pub examples : List (List ℕ × (Verdict × ℕ))
examples =
    ((0x00 ∷ 0x00 ∷ 0x00 ∷ []), (Accepted 1 0, 0))
    ∷ ([], (Err fault.MapEnds, 0))
    ∷ ((0x01 ∷ []), (Err fault.MapEnds, 8))
    ∷ ((0x01 ∷ 0xfb ∷ 0x03 ∷ 0x00 ∷ []), (Err fault.PastTarget, 26))
    ∷ ((0xfb ∷ []), (Err fault.CutOperand, 0))
    ∷ ((0x8b ∷ []), (Err fault.CutOpcode, 7))
    ∷ ((0x07 ∷ 0x00 ∷ 0x00 ∷ []), (Err fault.AfterDefault, 19))
    ∷ ((0x00 ∷ 0x00 ∷ 0x02 ∷ []), (Err fault.Padding, 0))
    ∷ ((0x00 ∷ 0x00 ∷ 0x00 ∷ 0x00 ∷ []), (Err fault.Padding, 0))
    ∷ ((0xfd ∷ 0x71 ∷ 0x3a ∷ 0x00 ∷ 0x00 ∷ []), (Err fault.NotAtTarget, 22))
    ∷ ((0x01 ∷ 0x01 ∷ []), (Err fault.TargetsCross, 8))
    ∷ ((0x63 ∷ 0x00 ∷ 0x00 ∷ 0x00 ∷ []), (Err fault.ShortMatches, 5))
    ∷ []
