-- What the two calls hand back, as document 01 has it ("What a call hands back"): a refusal, or whether the address is unroutable, whether the
-- message is to be skipped. Assumes nothing.
use Rattle.std.specs.Prelude.{Bool, true, false, Result, Ok, Err}
use Rattle.refusals.specs.declared.Refusal.{Refusal}

-- refused for this where the test holds, else the answer given
abbrev pub unless_refused : Bool → Refusal → Bool → Result Bool Refusal
unless_refused true n b = Err n
unless_refused false n b = Ok b
