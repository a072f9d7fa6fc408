-- From the last column to the first: what is put, and what is still to put (`Put`).
use Rattle.decimal_columns.proofs.Putting.{Put}
use Rattle.decimal_columns.proofs.put_columns.Given as goal

abbrev pub invariant-loop-column : goal.invariant-loop-column
invariant-loop-column l = Put l.fn.columns l.n l.columns l.column l.byte l.rest
