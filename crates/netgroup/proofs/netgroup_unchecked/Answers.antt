-- `netgroup_unchecked` is the group call over a map taken as it is; how its walk ends where the check accepts the map is `ended`.
use Rattle.std.proofs.Common.{◌∙◌, sym}
use Rattle.candidate_bytes.proofs.Valids.{valid-length}
use Rattle.netgroup.specs.Group.{numbering}
use Rattle.netgroup.proofs.Walked.{ended}
use Rattle.netgroup.proofs.netgroup_unchecked.Goals as goal

pub group_of-grouped-requires : goal.group_of-grouped-requires
group_of-grouped-requires c = (
  valid-length c.args.candidate.now (sym c.is_candidate.ensures ∙ c.if-not-is_candidate.false),
  sym c.limit_refusal.ensures ∙ c.in_default.is,
)

pub returns-clause-unaborted : goal.returns-clause-unaborted
returns-clause-unaborted c = λ h. ended (numbering c.args.grouping) c.args.candidate.now h
