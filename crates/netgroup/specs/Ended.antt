-- What is known of the walk behind a group, where the check accepts the map.
-- Assumes nothing.
use Rattle.std.specs.Prelude.{ℕ, ◌≡◌, List}
use Rattle.asmap_program.specs.declared.Kind.TheVariants.{Differed}
use Rattle.asmap_program.specs.Demand.{NoDefault, Answers}
use Rattle.netgroup.specs.Group.{Numbering, by_map, by_prefixes, by_old_prefixes, walk_for}

-- the walk of the address ended at a RETURN or at a difference; and its number is 0 only where it ended at a difference with no DEFAULT
-- read before
pub record Finished (m c : List ℕ) : Type 0 where
  pub ended : Answers (walk_for m c).kind
  pub zero : (walk_for m c).number ≡ 0 → ((walk_for m c).kind ≡ Differed) × NoDefault (walk_for m c).read

-- of a candidate's walk; without a map there is none
abbrev pub Ended : Numbering → List ℕ → Type 0
Ended (by_map m) c = Finished m c
Ended by_prefixes c = Unit {0}
Ended by_old_prefixes c = Unit {0}
