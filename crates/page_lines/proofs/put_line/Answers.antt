-- `put_line`: the parts of a line one after the other (`line-put`).
use Rattle.std.proofs.Common.{◌≡◌, ◌++◌, List, ℕ, ap, arith, take, drop, length, set, length-set}
use Rattle.std.proofs.lemmas.List.Edits.{sets}
use Rattle.std.proofs.Math.Seq.{length-sets}
use Rattle.decimal_columns.specs.Columns.{flush_right}
use Rattle.page_lines.specs.Line.{per_cent}
use Rattle.page_lines.proofs.LineLaws.{length_per_cent, part_put, columns_put, line-put}
use Rattle.page_lines.proofs.put_line.Goals as goal

pub returns : goal.returns
returns c =
    let o = c.args.columns.now in
    let g = c.args.group in
    let n = c.args.count in
    let t = c.tenths.result in
    let first : List ℕ = c.put_columns.new.columns ++ drop 10 o in
    let e : first ≡ sets o 0 (flush_right 10 g) = columns_put o _ 0 10 g (omega arith) c.put_columns.ensures in
    let spaced : List ℕ = set first 10 32 in
    let k : length spaced ≡ 25 = omega (arith, length-set first 10 32, ap length e, length-sets o 0 (flush_right 10 g)) in
    let second : List ℕ = take 11 spaced ++ (c.put_columns-2.new.columns ++ drop 6 (drop 11 spaced)) in
    let f : second ≡ sets spaced 11 (flush_right 6 n) = columns_put spaced _ 11 6 n (omega arith) c.put_columns-2.ensures in
    let m : length (set second 17 32) ≡ 25 = omega (arith, length-set second 17 32, ap length f, length-sets spaced 11 (flush_right 6 n)) in
    line-put o g n c.args.all first second _ t c.requires.0 c.tenths.ensures e f (part_put (set second 17 32) _ (per_cent t) 18 6 (omega arith) (length_per_cent t) c.put_per_cent.ensures)
