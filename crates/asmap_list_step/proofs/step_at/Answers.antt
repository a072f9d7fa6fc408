-- Each opcode has its arm: an opcode is read here, and the window holds its operand.
use Rattle.std.proofs.Common.{ℕ, ◌≡◌, refl, ◌∙◌, ap, subst, arith}
use Rattle.asmap_codes.specs.Row.{operand_row}
use Rattle.asmap_row_decoder.specs.models.InWindow.{Holds}
use Rattle.asmap_list_step.specs.models.Step.{Reads}
use Rattle.asmap_list_step.proofs.StepLaws.{opcode_cut, opcode_read, opcode_small}
use Rattle.asmap_list_step.proofs.step_at.Goals as goal
use Rattle.asmap_list_step.proofs.step_at.Goals.{After-operand_window-rest}
use Rattle.asmap_codes.specs.Reading.{Value}

reads : (k : After-operand_window-rest) (o : ℕ) → k.in-Some.opcode ≡ o → Reads k.args.map.now k.args.s o k.in-Some.from
reads k o e =
    (k.requires.2, k.requires.3, opcode_read k.args.map.now k.args.s.at _ k.window-w.ensures k.type_in.ensures ∙ k.in-Some.is ∙ ap (λ (x : ℕ). Value x k.in-Some.from) e)

held : (k : After-operand_window-rest) (o : ℕ) → k.in-Some.opcode ≡ o → Holds (operand_row o) k.args.map.now k.in-Some.from k.operand_window-rest.result
held k o e = subst (λ (x : ℕ). Holds (operand_row x) k.args.map.now k.in-Some.from k.operand_window-rest.result) e k.operand_window-rest.ensures

pub returns-in_default : goal.returns-in_default
returns-in_default c =
    opcode_cut c.args.map.now c.args.s c.args.stack.now.bits c.args.stack.now.numbers c.requires.1 c.requires.2 c.requires.3
    (opcode_read c.args.map.now c.args.s.at _ c.window-w.ensures c.type_in.ensures ∙ c.in_default.is)

pub operand_window-rest-requires : goal.operand_window-rest-requires
operand_window-rest-requires c =
    (c.window-w.ensures, opcode_read c.args.map.now c.args.s.at _ c.window-w.ensures c.type_in.ensures ∙ c.in-Some.is)

pub step_return-requires : goal.step_return-requires
step_return-requires c =
    let k = (goal.at.step_return-requires c).After-operand_window-rest in
    (c.requires.0, reads k 0 c.in-0.is, held k 0 c.in-0.is)

pub step_jump-requires : goal.step_jump-requires
step_jump-requires c =
    let k = (goal.at.step_jump-requires c).After-operand_window-rest in
    (c.requires.0, reads k 1 c.in-1.is, held k 1 c.in-1.is, c.requires.1)

pub step_match-requires : goal.step_match-requires
step_match-requires c =
    let k = (goal.at.step_match-requires c).After-operand_window-rest in
    (c.requires.0, reads k 2 c.in-2.is, held k 2 c.in-2.is, omega (arith, c.requires.1.bits))

pub step_default-requires : goal.step_default-requires
step_default-requires c =
    let k = (goal.at.step_default-requires c).After-operand_window-rest in
    let l = opcode_small c.args.map.now c.args.s.at _ _ (reads k _ refl).2 in
    let e : c.in-Some.opcode ≡ 3 = omega (arith, l) in
    (c.requires.0, reads k 3 e, held k 3 e)
