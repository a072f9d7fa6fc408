-- Two maps compared for every address: the changes from the old map's listing to the new one's, over the width w in address bits. "Refusals: the old
-- map's check, then the new one's (the answer says which of the two it was), then 14."
-- Assumes nothing.
use Rattle.std.specs.Prelude.{ℕ, ◌≡◌, List, length, Result, Err, Ok}
use Rattle.asmap_program.specs.Widths.{at_width}
use Rattle.asmap_check.specs.Check.{check_of}
use Rattle.asmap_records.specs.Output.{Making, Made, No, within, leaves}
use Rattle.prefix_changes.specs.Change.{Change}
use Rattle.prefix_changes.specs.Record.{change_records_of, first_changed}
use Rattle.asmap_changes.specs.Changes.{changes_of}
use Rattle.asmap_list.specs.List.{bytes_of}
use Rattle.asmap_program.specs.Verdict.{Verdict}
use Rattle.refusals.specs.declared.Refusal.{Refusal}
use Rattle.refusals.specs.declared.Refusal.TheVariants as refusal

-- What a comparison comes to: the changes, or a refusal.
pub data Comparison : Type 0 where
  Told : List Change → Comparison
  Refuses : Refusal → Comparison

-- By the verdicts of both: what is wrong with the old map, else with the new one.
abbrev pub compared_as : List Change → Verdict → Verdict → Comparison
compared_as cs (Err f) v = Refuses (refusal.Map f)
compared_as cs (Ok got) (Err f) = Refuses (refusal.NewMap f)
compared_as cs (Ok got) (Ok got') = Told cs

unfoldable pub comparison : List ℕ → List ℕ → ℕ → Comparison
comparison old new w = compared_as (changes_of old new w) (check_of old w) (check_of new w)

-- The same at a width, which both maps have (document 02, CR 3): 18 where it is none.
abbrev pub comparison_at : List ℕ → List ℕ → ℕ → Comparison
comparison_at old new w = at_width w Refuses (comparison old new w)

-- The bytes that the comparison makes: a record for each change.
abbrev pub records_made : Comparison → Making
records_made (Told cs) = Made (change_records_of cs)
records_made (Refuses n) = No n

abbrev pub compare_of : List ℕ → List ℕ → ℕ → Making
compare_of old new w = records_made (comparison old new w)

abbrev pub compare_at : List ℕ → List ℕ → ℕ → Making
compare_at old new w = records_made (comparison_at old new w)

-- The 16 bytes that the other call makes: the first address that differs.
abbrev pub first_made : Comparison → Making
first_made (Told cs) = Made (first_changed cs)
first_made (Refuses n) = No n

-- How many bytes the records need, where the address has its 16.
abbrev pub needed_with : Comparison → Making → Result ℕ Refusal
needed_with c (Made bs) = bytes_of (records_made c)
needed_with c (No n) = Err n

-- What the call that asks hands back (r) and the bytes lent for the address at exit (o'), from what they were at entry (o).
pub record Finds (c : Comparison) (o o' : List ℕ) (r : Result ℕ Refusal) : Type 0 where
  pub answer : r ≡ needed_with c (within (length o) (first_made c))
  pub output : o' ≡ leaves (within (length o) (first_made c)) o
