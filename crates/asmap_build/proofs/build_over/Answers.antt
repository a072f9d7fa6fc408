-- How the list is judged decides; one that is not refused rises at 128 bits too.
use Rattle.std.proofs.Common.{◌∙◌, sym, arith}
use Rattle.std.proofs.lemmas.Result.{err_from_is_err_and}
use Rattle.prefix_lists.proofs.ListLaws.{judged_rising, rising_wider}
use Rattle.asmap_build.proofs.CallLaws.{build_refused, build_listed_lem}
use Rattle.asmap_build.proofs.build_over.Goals as goal

pub invariant_of-build_listed : goal.invariant_of-build_listed
invariant_of-build_listed c =
    record { rising = rising_wider c.requires (judged_rising c.args.bits c.args.records.now c.args.given (λ i. omega (arith, c.type_inv.records i)) (sym c.judge_list.ensures ∙ c.in_ok-judge_list.was)).0 }

pub build_listed-requires : goal.build_listed-requires
build_listed-requires c =
    (judged_rising c.args.bits c.args.records.now c.args.given (λ i. omega (arith, c.type_inv.records i)) (sym c.judge_list.ensures ∙ c.in_ok-judge_list.was)).1

pub returns-in_err-judge_list : goal.returns-in_err-judge_list
returns-in_err-judge_list c =
    let a = c.args in
    let n = c.in_err-judge_list.field-0.0 in
    let p = err_from_is_err_and c.from_residual.result c.from_residual.ensures.1 in
    let r = build_refused a.records.now a.given a.bits a.out.now n (sym c.judge_list.ensures ∙ c.in_err-judge_list.was) in
    rw (p.1, p.2) record { hands = r.0; builds = r.1 }

pub returns-clause-hands : goal.returns-clause-hands
returns-clause-hands c =
    (build_listed_lem c.args.records.now c.args.given c.args.bits c.args.out.now c.requires (λ i. omega (arith, c.type_inv.records i)) (sym c.judge_list.ensures ∙ c.in_ok-judge_list.was) _ _ c.build_listed.ensures).0

pub returns-clause-builds : goal.returns-clause-builds
returns-clause-builds c =
    (build_listed_lem c.args.records.now c.args.given c.args.bits c.args.out.now c.requires (λ i. omega (arith, c.type_inv.records i)) (sym c.judge_list.ensures ∙ c.in_ok-judge_list.was) _ _ c.build_listed.ensures).1
