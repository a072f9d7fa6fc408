-- `prefix_number` is the group by prefixes in either numbering (`numbers_by`).
use Rattle.std.proofs.Common.{◌∙◌, sym, ap₂, ◌+◌, true, false}
use Rattle.netgroup.proofs.Which.{numbers_by}
use Rattle.netgroup.proofs.prefix_number.Goals as goal

pub returns-then-is_ipv4 : goal.returns-then-is_ipv4
returns-then-is_ipv4 c =
    ap₂ ◌+◌ c.first_ipv4_group.ensures.0 c.ipv4_prefix.ensures.0
    ∙ sym (numbers_by c.args.old c.args.candidate.now true (sym c.is_ipv4.ensures ∙ c.if-is_ipv4.true))

pub returns : goal.returns
returns c = c.ipv6_prefix.ensures ∙ sym (numbers_by c.args.old c.args.candidate.now false (sym c.is_ipv4.ensures ∙ c.if-is_ipv4.false))
