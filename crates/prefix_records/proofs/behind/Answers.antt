-- A piece of at most 64 bits moves the upper half alone (high_power).
use Rattle.std.proofs.Common.{arith}
use Rattle.prefix_records.proofs.CursorLaws.{high_power}
use Rattle.prefix_records.proofs.behind.Goals as goal

pub returns-then-length-le64 : goal.returns-then-length-le64
returns-then-length-le64 c =
    let p = c.power.ensures in
    let q = high_power c.args.length c.if-length-le64.true in
    (λ k. omega arith, omega arith, λ k. omega arith)
