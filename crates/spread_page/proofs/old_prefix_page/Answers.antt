-- `old_prefix_page` is the page over no map, in the old numbering.
use Rattle.spread_page.specs.Page.{spread_unchecked, old_prefix_page}
use Rattle.spread_page.proofs.old_prefix_page.Goals as goal

pub returns-clause-hands : goal.returns-clause-hands
unfolding spread_unchecked old_prefix_page
returns-clause-hands c = c.page_unchecked.ensures.hands
