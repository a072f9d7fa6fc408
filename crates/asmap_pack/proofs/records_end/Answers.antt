-- Where the records end from here is where they end (records-ends), up to the first wrong one (records_wrong).
use Rattle.std.proofs.Common.{◌∙◌, [], sym, arith, get_or}
use Rattle.std.proofs.lemmas.Result.{err_from_is_err_and}
use Rattle.asmap_pack.proofs.SizeLaws.{records_wrong, records-ends, records_over, end_bound}
use Rattle.asmap_pack.proofs.records_end.Goals as goal

pub returns-in_err-at : goal.returns-in_err-at
returns-in_err-at c =
    let l = c.loop-record in
    let p = err_from_is_err_and c.from_residual.result c.from_residual.ensures.1 in
    rw (p.1, p.2)
    (sym (l.invariant.same ∙ records_wrong c.args.records.now l.record-index l.at c.loop-record-test.true c.in_err-at.field-0.0 (sym c.record_end.ensures ∙ c.in_err-at.was)))

pub loop-record-preserved : goal.loop-record-preserved
loop-record-preserved c =
    let l = c.loop-record in
    let rs = c.args.records.now in
    let e = sym c.record_end.ensures ∙ c.in_ok-at.was in
    record {
      small = end_bound (get_or rs l.record-index []) l.at c.in_ok-at.at e;
      same = l.invariant.same ∙ records-ends rs l.record-index l.at c.loop-record-test.true c.in_ok-at.at e;
    }

pub returns : goal.returns
returns c =
    let l = c.loop-record in
    sym (l.invariant.same ∙ records_over c.args.records.now l.record-index l.at (omega arith))
