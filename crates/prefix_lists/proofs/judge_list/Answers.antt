-- The list is judged record by record (JudgeLaws), and the end moves behind each record that fits (ends_next).
use Rattle.std.proofs.Common.{◌∙◌, ℕ, sym, ap, subst, arith}
use Rattle.prefix_records.specs.models.Cursor.{Behind}
use Rattle.prefix_lists.specs.List.{count_of, is_number}
use Rattle.prefix_lists.proofs.FitLaws.{ends_start, ends_next, fitting}
use Rattle.prefix_lists.proofs.JudgeLaws.{number_read, judge_uneven, judge_even, judge_unfit, judge-number, judge-next, judge_closing, closing_no, closing_yes}
use Rattle.prefix_lists.proofs.judge_list.Goals as goal

pub returns-then-records-ne0 : goal.returns-then-records-ne0
returns-then-records-ne0 c = judge_uneven c.args.width c.args.records.now c.args.given c.if-records-ne0.true

pub loop-i-init : goal.loop-i-init
loop-i-init c =
    record {
      within = omega arith;
      rest = judge_even c.args.width c.args.records.now c.args.given c.if-records-ne0.false;
      ends = ends_start c.args.records.now;
    }

pub returns-then-not-fits_at : goal.returns-then-not-fits_at
returns-then-not-fits_at c =
    sym (c.loop-i.invariant.rest ∙ judge_unfit c.args.width c.args.records.now c.args.given (count_of c.args.records.now) c.loop-i.i c.loop-i-test.true (sym c.if-not-fits_at.ensures))

pub returns-then-not-is_number : goal.returns-then-not-is_number
returns-then-not-is_number c =
    let n = ap is_number (number_read c.args.records.now c.loop-i.i ∙ sym c.record_at-record.ensures.number) ∙ sym c.if-not-is_number.ensures in
    sym (c.loop-i.invariant.rest ∙ judge-number c.args.width c.args.records.now c.args.given (count_of c.args.records.now) c.loop-i.i c.loop-i-test.true (sym c.if-not-fits_at.ensures) n)

pub behind-end-requires : goal.behind-end-requires
behind-end-requires c = omega (arith, (fitting c.args.width c.args.records.now c.loop-i.i (sym c.if-not-fits_at.ensures)).short)

pub loop-i-preserved : goal.loop-i-preserved
loop-i-preserved c =
    let fit = sym c.if-not-fits_at.ensures in
    let n = ap is_number (number_read c.args.records.now c.loop-i.i ∙ sym c.record_at-record.ensures.number) ∙ sym c.if-not-is_number.ensures in
    record {
      within = omega arith;
      rest = c.loop-i.invariant.rest ∙ judge-next c.args.width c.args.records.now c.args.given (count_of c.args.records.now) c.loop-i.i c.loop-i-test.true fit n;
      ends = ends_next c.args.records.now c.loop-i.i _ _ (λ j. omega (arith, c.type_inv.records j)) (fitting c.args.width c.args.records.now c.loop-i.i fit).clean c.record_at-record.ensures.address
          (subst (λ (n : ℕ). Behind c.record_at-record.result.address n c.behind-end.result) c.record_at-record.ensures.length c.behind-end.ensures);
    }

pub returns-then-not-is_number-2 : goal.returns-then-not-is_number-2
returns-then-not-is_number-2 c =
    sym (c.loop-i.invariant.rest ∙ judge_closing c.args.width c.args.records.now c.args.given (count_of c.args.records.now) c.loop-i.i c.loop-i-test.false ∙ closing_no c.args.given (sym c.if-not-is_number-2.ensures))

pub returns : goal.returns
returns c =
    sym (c.loop-i.invariant.rest ∙ judge_closing c.args.width c.args.records.now c.args.given (count_of c.args.records.now) c.loop-i.i c.loop-i-test.false ∙ closing_yes c.args.given (sym c.if-not-is_number-2.ensures))
