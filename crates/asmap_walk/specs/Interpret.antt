-- What the call hands back of a walk (document 01, Walk and "What a call hands back").
-- Assumes nothing.
use Rattle.std.specs.Prelude.{ℕ, ◌*◌, Bool, true, false, not, List, ltb, eqb, length, Result, Ok, Err}
use Rattle.asmap_program.specs.Map.{limit}
use Rattle.asmap_program.specs.Widths.{at_width}
use Rattle.asmap_walk_bits.specs.Walk.{walk_of, summary}
use Rattle.asmap_walk_bits.specs.declared.Ending.{Ending}
use Rattle.refusals.specs.declared.Fault.TheVariants as fault
use Rattle.refusals.specs.declared.Refusal.{Refusal}
use Rattle.refusals.specs.declared.Refusal.TheVariants as refusal

-- where the test holds, refused for this
abbrev pub refused_if : Bool → Refusal → Result Ending Refusal → Result Ending Refusal
refused_if true n r = Err n
refused_if false n r = r

-- The call on any map and any address: 11 where the address has not 16 bytes, before 1 where the map is over the limit; else how
-- the defined walk by its 128 bits ended.
abbrev pub interpret_of : List ℕ → List ℕ → Result Ending Refusal
interpret_of m a =
    refused_if (not (eqb (length a) 16)) refusal.AddressLength (refused_if (ltb limit (length m)) (refusal.Map fault.MapTooLong) (Ok (summary (walk_of m a 128))))

-- The same by an address of just w bits: 11 where it has not so many, before 1; else how the defined walk by them ended.
abbrev pub interpret_over : List ℕ → List ℕ → ℕ → Result Ending Refusal
interpret_over m a w =
    refused_if (not (eqb (8 * length a) w)) refusal.AddressLength (refused_if (ltb limit (length m)) (refusal.Map fault.MapTooLong) (Ok (summary (walk_of m a w))))

-- The call at a width (document 02, CR 3): 18 comes before both.
abbrev pub interpret_at : List ℕ → List ℕ → ℕ → Result Ending Refusal
interpret_at m a w = at_width w Err (interpret_over m a w)
