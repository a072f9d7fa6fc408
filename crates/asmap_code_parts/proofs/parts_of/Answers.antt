-- The ends of the row tell whether its sizes grow by one (grown_of, parts_grown).
use Rattle.std.proofs.Common.{arith, sym, ◌∙◌, get_or, eqb-true}
use Rattle.asmap_codes.proofs.CodeLaws.{span-drop, size_small}
use Rattle.asmap_codes.proofs.GrownLaws.{grown_of}
use Rattle.asmap_code_parts.proofs.PartsLaws.{parts_grown}
use Rattle.asmap_code_parts.proofs.parts_of.Goals as goal

pub parts_grown-requires : goal.parts_grown-requires
parts_grown-requires c =
    let ss = c.args.sizes.now in
    let p = c.requires in
    (omega (arith, size_small ss 0 p.0 p.1), omega (arith, p.1, p.2, span-drop ss 0 p.0))

pub returns-then-grows : goal.returns-then-grows
returns-then-grows c =
    let a = c.args in
    let p = c.requires in
    let ss = a.sizes.now in
    parts_grown ss (get_or ss 0 0) a.x c.parts_grown.result p.0 p.1 p.2 (grown_of ss p.0 p.4 (eqb-true _ _ (sym c.grows.ensures ∙ c.if-grows.true))) c.parts_grown.ensures
