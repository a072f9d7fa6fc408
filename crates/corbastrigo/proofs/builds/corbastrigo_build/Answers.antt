-- The map that was built, and how many bytes; and what is promised of it.
use mathlib.Core.Path.{refl}
use Rattle.asmap_build.specs.Promise.{WritesMap}
use Rattle.answers.proofs.Promised.{writes, of_written}
use Rattle.corbastrigo.proofs.builds.corbastrigo_build.Goals as goal

pub returns : goal.returns
returns c =
    let a = c.args in
    let p = c.build.ensures in
    let e = c.hand_bytes.ensures in
    record { writes = writes p.hands e; builds = λ z. of_written (WritesMap a.records.now a.given a.width _) c.build.result _ p.builds e z _ refl }
