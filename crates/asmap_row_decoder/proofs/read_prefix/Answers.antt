-- At each size the code that is left is the code that was asked for, wherever it stands.
use Rattle.std.proofs.Common.{◌≡◌, ◌∙◌, ◌+◌, ◌-◌, length, arith}
use Rattle.asmap_codes.proofs.CodeLaws.{span-drop, size_small}
use Rattle.asmap_row_decoder.proofs.WindowLaws.{turn_more, turn_stop, turn_last}
use Rattle.asmap_row_decoder.proofs.read_prefix.Goals as goal

pub returns-then-bit-eq0 : goal.returns-then-bit-eq0
returns-then-bit-eq0 c =
    let l = c.loop-i in
    let ss = c.args.sizes.now in
    let d = span-drop ss l.i (omega arith) in
    record {
      near = omega arith;
      small = omega (arith, l.invariant.0, d);
      rest = λ at end.
          let p : at + l.i + 1 ≡ at + (l.i + 1) = omega arith in
          rw (← p) (l.invariant.1 at end ∙ turn_stop ss l.value (at + l.i) end l.left l.i (omega arith) (omega arith));
    }

pub power-value-requires : goal.power-value-requires
power-value-requires c = omega (arith, size_small c.args.sizes.now c.loop-i.i (omega arith) (omega (arith, c.loop-i.invariant.0)))

pub loop-i-preserved : goal.loop-i-preserved
loop-i-preserved c =
    let l = c.loop-i in
    let ss = c.args.sizes.now in (
      omega (arith, l.invariant.0, span-drop ss l.i (omega arith), c.power-value.ensures),
      λ at end.
          let p : at + l.i + 1 ≡ at + (l.i + 1) = omega arith in
          rw (c.power-value.ensures, ← p) (l.invariant.1 at end ∙ turn_more ss l.value (at + l.i) end l.left l.i (omega arith) (omega arith)),
    )

pub returns : goal.returns
returns c =
    let l = c.loop-i in
    let ss = c.args.sizes.now in
    let d = span-drop ss l.i (omega arith) in
    let e : l.i ≡ length ss - 1 = omega arith in
    record {
      near = omega arith;
      small = rw (← e) (omega (arith, l.invariant.0, d));
      rest = λ at end. rw (← e) (l.invariant.1 at end ∙ turn_last ss l.value (at + l.i) end l.left l.i (omega arith));
    }
