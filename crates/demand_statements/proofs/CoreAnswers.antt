-- What the check's call says of Core, both ways.
-- Assumes nothing.
use Prim.Native.Nat.{ℕ, ◌≤◌}
use mathlib.Core.Path.{◌≡◌, ◌∙◌, sym}
use mathlib.Core.List.{List}
use lib.Dec.{eqb}
use lib.ListN.{length}
use borrow.Author.Tests.{eq-eqb, eqb-true}
use Rattle.asmap_program.specs.Map.{limit}
use Rattle.asmap_program.specs.Core.{core_check}
use Rattle.asmap_codes.specs.Core.{file_of}
use Rattle.demand_statements.specs.Same.{CoreAccepts}

pub core_accepts : (m : List ℕ) (w r : ℕ) → (length m ≤ limit → core_check (file_of m) w ≡ eqb r 0) → CoreAccepts m w r
core_accepts m w r e = record { where_core = λ l t. eqb-true r 0 (sym (e l) ∙ t); only_there = λ l z. e l ∙ eq-eqb r 0 z }
