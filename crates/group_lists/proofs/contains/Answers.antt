-- `contains` is `has`: there is a hit just where its place is before the end.
use Rattle.std.proofs.Common.{◌∙◌, sym, ap, ℕ, nat_lt, length}
use Rattle.group_lists.proofs.Scans.{has_front}
use Rattle.group_lists.proofs.contains.Goals as goal

pub returns : goal.returns
returns c =
    let g = c.args.group in
    let gs = c.args.groups.now in
    ap (λ (p : ℕ). nat_lt p (length gs)) c.place_of.ensures ∙ sym (has_front g gs)
