-- `put_per_cent`: the whole, the point, the tenth (`per_cent-put`).
use Rattle.std.proofs.Common.{◌/◌, arith}
use Rattle.page_lines.proofs.LineLaws.{columns_put, per_cent-put}
use Rattle.page_lines.proofs.put_per_cent.Goals as goal

pub returns : goal.returns
returns c =
    let o = c.args.columns.now in
    let n = c.args.n in
    per_cent-put o _ n _ c.requires (columns_put o _ 0 4 (n / 10) (omega arith) c.put_columns.ensures) c.last_digit.ensures
