-- Laws of records of changes: how long they are. Assumes nothing.
use Prim.Native.Nat.{◌*◌}
use mathlib.Core.Path.{◌≡◌, refl}
use mathlib.Core.List.{List, [], ◌∷◌}
use native.Mathlib.Omega.{arith}
use lib.ListN.{length, length-append}
use Rattle.prefix_changes.specs.Change.{Change}
use Rattle.prefix_changes.specs.Record.{change_record_of, change_records_of}

pub length-changes : (cs : List Change) → length (change_records_of cs) ≡ 28 * length cs
length-changes [] = refl
length-changes (c ∷ cs) = omega (arith, length-append (change_record_of c) (change_records_of cs), length-changes cs)
