-- What was read is the code of the map, and the rows of `StepLaws` say what it does.
use Rattle.std.proofs.Common.{refl, ◌∙◌, arith}
use lib.Dec.{lit<}
use Rattle.asmap_program.specs.Map.{MATCH}
use Rattle.asmap_codes.specs.Row.{match_row}
use Rattle.asmap_codes.proofs.Inside.{value_at}
use Rattle.asmap_list_step.proofs.StepLaws.{from_near, was_read, operand_cut, at_match, at-match_full}
use Rattle.asmap_list_step.proofs.step_match.Goals as goal

pub match_in-requires : goal.match_in-requires
match_in-requires c = from_near c.args.map.now c.args.s MATCH c.args.from c.requires.1 c.requires.0

pub returns-in_default : goal.returns-in_default
returns-in_default c bs ns sane =
    operand_cut c.args.map.now c.args.s bs ns sane MATCH _ c.requires.1
    (was_read c.args.map.now c.args.from c.args.w match_row (lit< tt) c.requires.2 c.match_in.ensures ∙ c.in_default.is)

pub match_length-length-requires : goal.match_length-length-requires
match_length-length-requires c =
    let q = was_read c.args.map.now c.args.from c.args.w match_row (lit< tt) c.requires.2 c.match_in.ensures ∙ c.in-Some.is in
    let i = value_at c.args.map.now c.args.from match_row _ _ (lit< tt) q in
    omega (arith, i.above)

pub returns-then-s-length : goal.returns-then-s-length
returns-then-s-length c bs ns sane =
    let q = was_read c.args.map.now c.args.from c.args.w match_row (lit< tt) c.requires.2 c.match_in.ensures ∙ c.in-Some.is in
    at-match_full c.args.map.now c.args.s bs ns sane MATCH _ c.requires.1 _ _ q refl
    (omega (arith, c.if-s-length.true, c.match_length-length.ensures, c.requires.3))

pub returns : goal.returns
returns c bs ns sane =
    let q = was_read c.args.map.now c.args.from c.args.w match_row (lit< tt) c.requires.2 c.match_in.ensures ∙ c.in-Some.is in
    let i = value_at c.args.map.now c.args.from match_row _ _ (lit< tt) q in
    at_match c.args.map.now c.args.s bs ns sane MATCH _ c.requires.1 _ _ q _ refl c.match_length-length.ensures
    (omega (arith, c.if-s-length.false, c.requires.3)) (omega (arith, i.below))
