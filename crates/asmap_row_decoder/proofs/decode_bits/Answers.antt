-- Where the ends of a row tell that its sizes grow by one, they do (grown_of).
use Rattle.std.proofs.Common.{◌∙◌, ℕ, List, sym, ap, arith}
use Rattle.asmap_codes.specs.Row.{span}
use Rattle.asmap_codes.proofs.GrownLaws.{grown_of}
use Rattle.asmap_row_decoder.specs.models.InWindow.{code_in}
use borrow.Author.Tests.{eqb-true}
use Rattle.asmap_row_decoder.proofs.decode_bits.Goals as goal

pub decode_grown-requires : goal.decode_grown-requires
decode_grown-requires c =
    let row = grown_of c.args.sizes.now c.requires.2 c.requires.4 (eqb-true _ _ (sym c.grows.ensures ∙ c.if-grows.true)) in
    (c.requires.0, omega (arith, c.requires.1, ap span row), c.requires.2, c.requires.3)

pub returns-then-grows : goal.returns-then-grows
returns-then-grows c =
    let a = c.args in
    let row = grown_of c.args.sizes.now c.requires.2 c.requires.4 (eqb-true _ _ (sym c.grows.ensures ∙ c.if-grows.true)) in
    c.decode_grown.ensures ∙ ap (λ (ss : List ℕ). code_in ss a.least a.at a.end a.w) (sym row)
