-- Eight bytes, or those that are left, from the byte of the bit on; past the end, zeros.
use Rattle.std.proofs.Common.{arith, ◌/◌}
use Rattle.asmap_window.proofs.ByteLaws.{window-word, window_at, window_past}
use Rattle.asmap_window.proofs.window.Goals as goal

pub returns-then-b-map : goal.returns-then-b-map
returns-then-b-map c =
    let a = c.args in
    window_at a.map.now a.at _ (window-word a.map.now (a.at / 8) _ (omega arith) c.word_at.ensures)

pub returns-then-b-map-2 : goal.returns-then-b-map-2
returns-then-b-map-2 c = window_at c.args.map.now c.args.at _ c.load_tail.ensures

pub returns : goal.returns
returns c = window_past c.args.map.now c.args.at (omega arith)
