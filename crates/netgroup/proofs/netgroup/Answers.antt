-- `netgroup` is the group call over a map that is checked; how its walk ends is `ended`.
use Rattle.std.proofs.Common.{◌∙◌, sym}
use Rattle.candidate_bytes.proofs.Valids.{valid-length}
use Rattle.netgroup.specs.Group.{numbering}
use Rattle.netgroup.proofs.Refusals.{check_limit}
use Rattle.netgroup.proofs.Walked.{ended}
use Rattle.netgroup.proofs.netgroup.Goals as goal

pub group_of-grouped-requires : goal.group_of-grouped-requires
group_of-grouped-requires c =
    let n = numbering c.args.grouping in (
      valid-length c.args.candidate.now (sym c.is_candidate.ensures ∙ c.if-not-is_candidate.false),
      check_limit n (sym c.check_refusal.ensures ∙ c.in_default.is),
    )

pub returns-clause-unaborted : goal.returns-clause-unaborted
returns-clause-unaborted c =
    let n = numbering c.args.grouping in
    ended n c.args.candidate.now (sym c.check_refusal.ensures ∙ c.in_default.is)
