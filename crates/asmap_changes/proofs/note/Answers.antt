-- By the rows of `NoteLaws` on a pair noted.
use Rattle.asmap_changes.proofs.NoteLaws.{noted_same, noted_other}
use Rattle.asmap_changes.proofs.note.Goals as goal

pub returns-then-o-n : goal.returns-then-o-n
returns-then-o-n g c = noted_same g.R.Report.writes c.args.o c.args.n c.args.found _ c.if-o-n.true

pub returns : goal.returns
returns g c =
    noted_other g.R.Report.writes c.args.o c.args.n c.args.found _ _ _ _ c.if-o-n.false c.shared-place.ensures c.piece.ensures c.add.ensures
