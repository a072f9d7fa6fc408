-- `put_lines` goes from run to run, and what will be put is what was to be put at the start (`lines_next`).
use Rattle.std.proofs.Common.{◌≡◌, ◌≤◌, ◌+◌, ◌-◌, ◌∙◌, ap, get_or, drop, length, length-drop, arith}
use Rattle.std.proofs.Math.Seq.{length-sets}
use Rattle.std.proofs.lemmas.List.{length-take-le}
use Rattle.group_shares.specs.Spread.{share}
use Rattle.group_shares.proofs.RunLaws.{run_goes}
use Rattle.page_lines.specs.Line.{line}
use Rattle.page_lines.proofs.LineLaws.{length-line, part_put, lines_next, lines_room}
use Rattle.page_lines.proofs.put_lines.Goals as goal

pub slice_bounds-put_line-end : goal.slice_bounds-put_line-end
slice_bounds-put_line-end c =
    let l = c.loop-i in
    let room : l.at + 25 ≤ length l.out = omega (arith, l.invariant.1, l.invariant.2, lines_room c.args.groups.now l.i (omega arith)) in
    omega arith

pub put_line-requires : goal.put_line-requires
put_line-requires c =
    let gs = c.args.groups.now in
    let l = c.loop-i in
    let e = c.run_end-end.ensures in
    let w = run_goes gs l.i (omega arith) in
    let room : l.at + 25 ≤ length l.out = omega (arith, l.invariant.1, l.invariant.2, lines_room gs l.i (omega arith)) in
    let k : l.at + 25 - l.at ≡ 25 = omega arith in
    (rw k (length-take-le 25 (drop l.at l.out) (omega (arith, length-drop l.at l.out))), omega (arith, e), omega arith, c.requires.0)

pub loop-i-preserved : goal.loop-i-preserved
loop-i-preserved c =
    let gs = c.args.groups.now in
    let l = c.loop-i in
    let n = c.run_end-end.result - l.i in
    let e = c.run_end-end.ensures in
    let w = run_goes gs l.i (omega arith) in
    let room : l.at + 25 ≤ length l.out = omega (arith, l.invariant.1, l.invariant.2, lines_room gs l.i (omega arith)) in
    let k : l.at + 25 - l.at ≡ 25 = omega arith in
    let bytes = line (length gs) (share (get_or gs l.i 0) n) in
    let put = part_put l.out c.put_line.new.columns bytes l.at 25 room (length-line (length gs) (share (get_or gs l.i 0) n)) c.put_line.ensures in
    rw k (
      omega (arith, e),
      ap length put ∙ length-sets l.out l.at bytes ∙ l.invariant.1,
      rw e (omega (arith, l.invariant.2, lines_room gs l.i (omega arith))),
      lines_next (length gs) gs l.out _ l.i l.at c.run_end-end.result (omega arith) e n (omega (arith, e)) put ∙ l.invariant.3,
    )
