-- By the rows of `PutLaws`, turn by turn.
use Rattle.asmap_list.proofs.PutLaws.{start_standing, gives_length, gives_standing, ends_standing, done_standing}
use Rattle.asmap_list.proofs.put_listing.Goals as goal

pub loop-k-init : goal.loop-k-init
loop-k-init c =
    start_standing c.args.map.now c.args.out.now _ _ c.args.count _ c.requires.2 c.new-stack.ensures.0 c.new-stack.ensures.1 c.start-s.ensures

pub returns-in_default : goal.returns-in_default
returns-in_default c = ends_standing c.loop-k.invariant c.in_default.ensures

pub behind-a-requires : goal.behind-a-requires
behind-a-requires c = gives_length c.loop-k.invariant _ _ _ c.in-Some.ensures.same

pub loop-k-preserved : goal.loop-k-preserved
loop-k-preserved c = gives_standing c.loop-k.invariant _ _ _ _ _ _ _ c.in-Some.ensures c.behind-a.ensures c.put_record.ensures

pub returns : goal.returns
returns c = done_standing c.loop-k.invariant c.loop-k-test.false
