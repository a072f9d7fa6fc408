-- The widths of addresses in bits (document 02, CR 3): "a width, 32 or 128"; and the refusal of a call at any other.
-- Assumes nothing.
use Rattle.std.specs.Prelude.{ℕ, Bool, ◌||◌, cond, eqb}
use Rattle.refusals.specs.declared.Refusal.{Refusal}
use Rattle.refusals.specs.declared.Refusal.TheVariants as refusal

-- A map for addresses of four bytes has 32, any other map 128.
abbrev pub is_width : ℕ → Bool
is_width w = eqb w 32 || eqb w 128

-- What a call at the width w comes to. "18, first of all, for a width that is neither"; `refused` makes a reason that call's refusal.
unfoldable pub at_width : {A : Type 0} → ℕ → (Refusal → A) → A → A
at_width w refused answer = cond (is_width w) answer (refused refusal.Width)
