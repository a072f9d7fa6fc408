-- The changes are counted, and the first of them gives the address.
use Rattle.std.proofs.Common.{arith}
use Rattle.asmap_changes.specs.Changes.{changes_of}
use Rattle.asmap_changes.proofs.MergeLaws.{few_changes}
use Rattle.asmap_compare.proofs.CallLaws.{finds_short, finds-first}
use Rattle.asmap_compare.proofs.find_changes.Goals as goal

pub returns-then-first-lt16 : goal.returns-then-first-lt16
returns-then-first-lt16 c = finds_short (changes_of c.args.old.now c.args.new.now 128) c.args.first.now c.if-first-lt16.true

pub overflow_mul-result : goal.overflow_mul-result
overflow_mul-result c = omega (arith, c.put_changes-found.ensures.pieces, few_changes _ _ c.requires.0 c.requires.1)

pub returns : goal.returns
returns c =
    let w = c.put_changes-found.ensures in
    finds-first (changes_of c.args.old.now c.args.new.now 128) c.args.first.now _ _ _ _ _ _ c.if-first-lt16.false w.first w.output c.put_big.ensures c.put_big-2.ensures w.pieces
