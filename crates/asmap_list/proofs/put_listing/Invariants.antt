-- Each piece is the next of the pass over the map, and what is written and what is still to come are the listing's records.
use Rattle.asmap_list.proofs.PutLaws.{Standing}
use Rattle.asmap_list.proofs.put_listing.Given as goal

abbrev pub invariant-loop-k : goal.invariant-loop-k
invariant-loop-k l = Standing l.map l.fn.out l.count l.out l.stack.bits l.stack.numbers l.s l.a l.k
