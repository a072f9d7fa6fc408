-- By what the call promises.
use mathlib.Core.Path.{refl}
use Rattle.asmap_codes.specs.Row.{jump_row}
use Rattle.asmap_codes.specs.Core.{file_of}
use Rattle.demand_statements.proofs.CodeAnswers.{code_reads, core_reads}
use Rattle.demands.proofs.any_input.jump_read.Goals as goal

pub returns : goal.returns
returns c =
    let a = c.args in
    let e = c.corbastrigo_decode_jump.ensures in
    record { reads = code_reads a.map.now a.at jump_row refl e.hands; core = core_reads a.map.now a.at _ _ _ ((file_of a.map.now).decode_jump a.at) e.core }
