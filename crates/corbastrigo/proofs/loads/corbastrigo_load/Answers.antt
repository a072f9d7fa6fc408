-- The load that was written, and how many bytes; and that it passes the check.
use mathlib.Core.Path.{refl}
use Rattle.asmap_load.specs.Promise.{WritesLoad}
use Rattle.answers.proofs.Promised.{writes, of_written}
use Rattle.corbastrigo.proofs.loads.corbastrigo_load.Goals as goal

pub returns : goal.returns
returns c =
    let a = c.args in
    let p = c.load.ensures in
    let e = c.hand_bytes.ensures in
    record { writes = writes p.hands e; passes = λ z. of_written (WritesLoad a.seed a.pairs _) c.load.result _ p.passes e z _ refl }
