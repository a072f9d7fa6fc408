-- Both copies of the mask fit: `swap-fits`.
use Rattle.asmap_codes.proofs.ReverseLaws.{swap_shifted, swap-fits}
use Rattle.asmap_codes.proofs.swapped.Goals as goal

pub overflow_add-result : goal.overflow_add-result
overflow_add-result c =
    let a = c.args in
    record { fits = rw (swap_shifted a.k a.mask a.x c.requires.1) (swap-fits a.k a.mask a.x c.requires.1) }

pub returns : goal.returns
returns c =
    let a = c.args in
    rw (swap_shifted a.k a.mask a.x c.requires.1)
