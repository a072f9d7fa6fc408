-- The check's verdict decides, and what is listed is the check's own list.
use Rattle.std.proofs.Common.{◌∙◌, sym, arith, Err}
use Rattle.std.proofs.lemmas.Result.{err_from_is_err_and}
use Rattle.refusals.specs.declared.Refusal.TheVariants as refusal
use Rattle.asmap_program.specs.Check.{unpacked}
use Rattle.asmap_codes.specs.Instruction.{map_of}
use Rattle.asmap_check.proofs.Limit.{accepted_within}
use Rattle.asmap_records.specs.Record.{records_of}
use Rattle.asmap_records.specs.Unpack.{unpack_of}
use Rattle.asmap_records.proofs.OutputLaws.{hands_no, hands_short, hands_made}
use Rattle.asmap_records.proofs.UnpackLaws.{unpack_as_lem, unpack-length}
use Rattle.asmap_unpack.proofs.unpack_over.Goals as goal

pub returns-then-out-records : goal.returns-then-out-records
returns-then-out-records c =
    let a = c.args in
    let m = a.map.now in
    let t = sym c.in_ok-accepted.was ∙ c.check_over.ensures.value in
    let n = unpack-length m a.bits _ _ (accepted_within m a.bits _ _ (sym t)).1 in
    hands_short (unpack_of m a.bits) a.out.now (records_of (unpacked (map_of m) a.bits)) (unpack_as_lem m a.bits _ t) (omega (arith, n))

pub returns-in_err-accepted : goal.returns-in_err-accepted
returns-in_err-accepted c =
    let a = c.args in
    let f = c.in_err-accepted.field-0.0 in
    let p = err_from_is_err_and c.from_residual.result c.from_residual.ensures.1 in
    rw (p.1, p.2)
    (hands_no (unpack_of a.map.now a.bits) a.out.now (refusal.Map f) (unpack_as_lem a.map.now a.bits (Err f) (sym c.in_err-accepted.was ∙ c.check_over.ensures.value)))

pub returns : goal.returns
returns c =
    let a = c.args in
    let m = a.map.now in
    let t = sym c.in_ok-accepted.was ∙ c.check_over.ensures.value in
    let s = accepted_within m a.bits _ _ (sym t) in
    let n = unpack-length m a.bits _ _ s.1 in
    hands_made (unpack_of m a.bits) a.out.now (records_of (unpacked (map_of m) a.bits)) _ _ (unpack_as_lem m a.bits _ t) (sym n) (omega (arith, n)) (c.put_list.ensures a.bits _ s.1)
