-- The eight bytes (word_bytes), each with its weight, are their number (big-eight).
use Rattle.std.proofs.Common.{sym, ◌∙◌}
use Rattle.byte_numbers.proofs.Words.{word_bytes}
use Rattle.prefix_lists.proofs.BigLaws.{big-eight}
use Rattle.prefix_lists.proofs.big_at.Goals as goal

pub returns : goal.returns
returns c =
    let e = c.bytes_at.ensures ∙ word_bytes c.args.bytes.now c.args.at c.requires in
    let r = rw e at c.from_be_bytes.ensures in
    r ∙ sym (big-eight c.args.bytes.now c.args.at)
