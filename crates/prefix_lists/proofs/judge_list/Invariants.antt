-- What is left to judge from a record on is what the list is judged, and the end is where that record may begin.
use Rattle.std.proofs.Common.{◌≡◌, ◌≤◌}
use Rattle.prefix_lists.specs.List.{earliest, judge}
use Rattle.prefix_lists.specs.models.End.{Ends}
use Rattle.prefix_lists.proofs.JudgeLaws.{left}
use Rattle.prefix_lists.proofs.judge_list.Given as goal

abbrev pub invariant-loop-i : goal.invariant-loop-i
invariant-loop-i l =
    record {
      within : l.i ≤ l.i-end;
      rest : judge l.width l.records l.given ≡ left l.width l.records l.given l.i-end l.i;
      ends : Ends (earliest l.records l.i) l.end;
    }
