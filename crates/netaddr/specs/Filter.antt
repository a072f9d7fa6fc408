-- The filter call (document 01, Filters): refused, or whether an address is unroutable. Assumes nothing.
use Rattle.std.specs.Prelude.{ℕ, not, List, eqb, length, Bool, Result}
use Rattle.netaddr_ranges.specs.Unroutable.{unroutable16}
use Rattle.refusals.specs.declared.Refusal.{Refusal}
use Rattle.refusals.specs.declared.Refusal.TheVariants as refusal
use Rattle.netaddr.specs.Answer.{unless_refused}

-- The call's answer: 11 for a slice that is not 16 bytes, else whether it is unroutable.
abbrev pub filter_of : List ℕ → Result Bool Refusal
filter_of a = unless_refused (not (eqb (length a) 16)) refusal.AddressLength (unroutable16 a)
