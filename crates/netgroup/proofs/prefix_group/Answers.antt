-- `prefix_group` asks for the prefix of a candidate, which has 20 bytes.
use Rattle.std.proofs.Common.{◌∙◌, sym}
use Rattle.candidate_bytes.proofs.Valids.{valid-length}
use Rattle.netgroup.proofs.prefix_group.Goals as goal

pub prefix_number-requires : goal.prefix_number-requires
prefix_number-requires c = valid-length c.args.candidate.now (sym c.is_candidate.ensures ∙ c.if-not-is_candidate.false)
