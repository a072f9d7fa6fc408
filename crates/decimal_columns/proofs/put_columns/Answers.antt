-- `put_columns` meets its contract: what is put holds at the start (`put_first`), after one column more (`put_next`) and at the end (`put_all`).
use Rattle.std.proofs.Common.{arith}
use Rattle.decimal_columns.proofs.Putting.{put_first, put_next, put_all}
use Rattle.decimal_columns.proofs.put_columns.Goals as goal

pub loop-column-init : goal.loop-column-init
loop-column-init c = put_first c.args.columns.now c.args.n c.last_digit-byte.result c.last_digit-byte.ensures

pub loop-column-preserved : goal.loop-column-preserved
loop-column-preserved c =
    let l = c.loop-column in
    put_next c.args.columns.now c.args.n l.columns l.column l.byte l.rest c.rest_byte-byte.result l.invariant c.loop-column-test.true c.rest_byte-byte.ensures

pub returns : goal.returns
returns c =
    let l = c.loop-column in
    put_all c.args.columns.now c.args.n l.columns l.column l.byte l.rest l.invariant (omega arith)
