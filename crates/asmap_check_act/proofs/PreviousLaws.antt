-- What stood before, compared with DEFAULT.
-- Assumes nothing.
use mathlib.Core.Bool.{Bool}
use mathlib.Core.Path.{◌≡◌, refl, sym, ◌∙◌}
use denote.Enum.Bare.{sameb}
use Rattle.asmap_program.specs.contracts.Previous.{the_type}
use Rattle.asmap_program.specs.declared.Previous.{Previous}
use Rattle.asmap_program.specs.declared.Previous.TheVariants.{Default, Short, Other}
use Rattle.asmap_program.specs.Check.{is_default}

compared : (p : Previous) → sameb the_type p Default ≡ is_default p
compared Default = refl
compared Short = refl
compared Other = refl

pub default_is : (p : Previous) {b r : Bool} → r ≡ sameb the_type p Default → r ≡ b → is_default p ≡ b
default_is p e f = sym (e ∙ compared p) ∙ f
