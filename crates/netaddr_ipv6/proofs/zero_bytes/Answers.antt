-- The bytes are a slice's, and each is asked.
use Rattle.std.proofs.Common.{◌-◌, ◌∙◌, eqb, rules, arith}
use Rattle.std.proofs.lemmas.Iterator.{YieldsList-from_slice}
use Rattle.std.proofs.lemmas.Iterator.Search.{all_from_yields_List}
use borrow.Author.Tests.{tests}
use Rattle.std.specs.List.{slice_range}
use Rattle.netaddr_ipv6.proofs.Zeros.{run}
use Rattle.netaddr_ipv6.proofs.zero_bytes.Goals as goal

pub returns : goal.returns
returns c = let a = c.args in
    all_from_yields_List (λ x. eqb x 0) _ _ _ c.all.ensures.ran (YieldsList-from_slice (slice_range a.o a.from a.to) cc) (λ x b q k. search (rules, tests))
    ∙ run a.from (a.to - a.from) a.o (omega arith)
