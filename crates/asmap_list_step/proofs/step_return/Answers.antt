-- What was read is the code of the map, and the rows of `StepLaws` say what it does.
use Rattle.std.proofs.Common.{refl, ◌∙◌}
use lib.Dec.{lit<}
use Rattle.asmap_program.specs.Map.{RETURN}
use Rattle.asmap_codes.specs.Row.{asn_row}
use Rattle.asmap_list_step.proofs.StepLaws.{from_near, was_read, operand_cut, at_return}
use Rattle.asmap_list_step.proofs.step_return.Goals as goal

pub asn_in-requires : goal.asn_in-requires
asn_in-requires c = from_near c.args.map.now c.args.s RETURN c.args.from c.requires.1 c.requires.0

pub returns-in_default : goal.returns-in_default
returns-in_default c bs ns sane =
    operand_cut c.args.map.now c.args.s bs ns sane RETURN _ c.requires.1
    (was_read c.args.map.now c.args.from c.args.w asn_row (lit< tt) c.requires.2 c.asn_in.ensures ∙ c.in_default.is)

pub returns : goal.returns
returns c bs ns sane =
    at_return c.args.map.now c.args.s bs ns sane RETURN _ c.requires.1 _ _
    (was_read c.args.map.now c.args.from c.args.w asn_row (lit< tt) c.requires.2 c.asn_in.ensures ∙ c.in-Some.is) refl
