-- The bits of records that are each a list of its own, as the code goes over them. Assumes nothing.
use Rattle.std.specs.Prelude.{ℕ, ◌+◌, List, [], ◌∷◌, ◌++◌, length}
use Rattle.asmap_records.specs.Output.{Making, Made, on}
use Rattle.asmap_records.specs.Pack.{record_bits}

-- The bits of records, the first to stand at `at`, each next at the end of the one before; refused as the first wrong one is.
abbrev pub bits_from : List (List ℕ) → ℕ → Making
bits_from [] at = Made []
bits_from (r ∷ rs) at = on (λ (bs : List ℕ). on (λ (cs : List ℕ). Made (bs ++ cs)) (bits_from rs (at + length bs))) (record_bits r at)
