-- What each pass leaves: the contracts of the two loops.
-- Assumes nothing.
use Rattle.std.specs.Prelude.{ℕ, ◌≡◌, List, length}
use Rattle.netgroup.specs.Group.{Numbering}
use Rattle.pick_passes.specs.declared.First.{First}
use Rattle.pick_passes.specs.First.{Pass}
use Rattle.pick_passes.specs.Ranked.{first, instructions}
use Rattle.pick_passes.specs.Output.{written}

-- the first: its numbers, and its places and groups in front of the outputs
pub record Passed (pass : Pass) (count : ℕ) (ps gs : List ℕ) (r : First) (ps' gs' : List ℕ) : Type 0 where
  pub taken : r.taken ≡ length pass.places
  pub examined : r.examined ≡ pass.examined
  pub instructions : r.instructions ≡ count
  pub picks : ps' ≡ written pass.places ps
  pub groups : gs' ≡ written pass.groups gs

abbrev pub PassedFirst : Numbering → List (List ℕ) → List ℕ → ℕ → List ℕ → List ℕ → First → List ℕ → List ℕ → Type 0
PassedFirst n all occupied max = Passed (first n all occupied max) (instructions n all occupied max)

-- the second: how many picks there are, and their places in front of the output
pub record Filled (places ps : List ℕ) (r : ℕ) (ps' : List ℕ) : Type 0 where
  pub total : r ≡ length places
  pub picks : ps' ≡ written places ps
