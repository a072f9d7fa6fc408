-- JUMP and MATCH have rows of their own, the others an AS number.
use Rattle.std.proofs.Common.{arith, sym, subst}
use Rattle.asmap_codes.specs.Row.{Row}
use Rattle.asmap_codes.proofs.RowLaws.{asn_operand}
use Rattle.asmap_code_parts.specs.models.Parts.{CodedAs}
use Rattle.asmap_code_parts.proofs.operand_parts.Goals as goal

pub returns-in_default : goal.returns-in_default
returns-in_default c =
    let a = c.args in
    let e = sym (asn_operand a.opcode (omega arith) (omega arith)) in
    subst (λ (row : Row). CodedAs row a.operand c.asn_parts.result) e c.asn_parts.ensures
