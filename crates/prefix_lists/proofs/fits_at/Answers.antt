-- The tests are the definition's (fits_tests), one after the other.
use Rattle.std.proofs.Common.{◌≡◌, ◌∙◌, ◌&&◌, ◌%◌, ◌^◌, ◌-◌, Bool, leb, eqb, sym, ap, arith}
use Rattle.std.proofs.lemmas.Bool.Decides.{nat_tests}
use Rattle.prefix_records.specs.models.Cursor.{value_of}
use Rattle.prefix_lists.specs.List.{length_at, zeros_at}
use Rattle.prefix_lists.specs.models.End.{may_begin}
use Rattle.prefix_lists.proofs.FitLaws.{fits_tests}
use Rattle.prefix_lists.proofs.fits_at.Goals.{then-length-width, else-length-width, then-zeros_at, else-zeros_at}
use Rattle.prefix_lists.proofs.fits_at.Goals as goal

pub returns-then-zeros_past : goal.returns-then-zeros_past
returns-then-zeros_past c =
    let all = fits_tests c.args.width c.args.records.now c.args.i c.record_at-length.result.address c.args.end (λ k. omega (arith, c.type_inv.records k)) c.record_at-length.ensures.address c.requires.2 in
    let short : c.if-length-width.value ≡ (leb (length_at c.args.records.now c.args.i) c.args.width && zeros_at c.args.records.now c.args.i) =
    elim c.if-length-width.branch [ then-length-width w ↦ grind (arith, nat_tests) | else-length-width w ↦ grind (arith, nat_tests) ] in
    let clean : c.if-zeros_at.value ≡ (c.if-length-width.value && eqb (value_of c.record_at-length.result.address % 2 ^ (128 - length_at c.args.records.now c.args.i)) 0) =
    elim c.if-zeros_at.branch [ then-zeros_at w ↦ grind (arith, nat_tests) | else-zeros_at w ↦ grind (arith, nat_tests) ] in
    c.may_begin.ensures ∙ ap (λ (t : Bool). t && may_begin c.args.i (value_of c.args.end) (value_of c.record_at-length.result.address)) (sym c.if-zeros_past.true ∙ clean ∙ rw short) ∙ all

pub returns-else-zeros_past : goal.returns-else-zeros_past
returns-else-zeros_past c =
    let all = fits_tests c.args.width c.args.records.now c.args.i c.record_at-length.result.address c.args.end (λ k. omega (arith, c.type_inv.records k)) c.record_at-length.ensures.address c.requires.2 in
    let short : c.if-length-width.value ≡ (leb (length_at c.args.records.now c.args.i) c.args.width && zeros_at c.args.records.now c.args.i) =
    elim c.if-length-width.branch [ then-length-width w ↦ grind (arith, nat_tests) | else-length-width w ↦ grind (arith, nat_tests) ] in
    let clean : c.if-zeros_at.value ≡ (c.if-length-width.value && eqb (value_of c.record_at-length.result.address % 2 ^ (128 - length_at c.args.records.now c.args.i)) 0) =
    elim c.if-zeros_at.branch [ then-zeros_at w ↦ grind (arith, nat_tests) | else-zeros_at w ↦ grind (arith, nat_tests) ] in
    c.if-zeros_past.false ∙ ap (λ (t : Bool). t && may_begin c.args.i (value_of c.args.end) (value_of c.record_at-length.result.address)) (sym c.if-zeros_past.false ∙ clean ∙ rw short) ∙ all
