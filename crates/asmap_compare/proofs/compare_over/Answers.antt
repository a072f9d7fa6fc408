-- Both checks decide.
use Rattle.std.proofs.Common.{◌∙◌, sym}
use Rattle.std.proofs.lemmas.Result.{err_from_is_err_and}
use Rattle.asmap_changes.specs.Changes.{changes_of}
use Rattle.asmap_changes.proofs.MergeLaws.{bounded_changes}
use Rattle.asmap_compare.specs.Compare.{Told, comparison}
use Rattle.asmap_compare.proofs.CallLaws.{few_of, mapped-ok, mapped-err, ready, accepts, refuses, told_wide, old_refused, new_refused, hands_refused, hands_same}
use Rattle.asmap_compare.proofs.compare_over.Goals as goal

pub write_if_room-requires : goal.write_if_room-requires
write_if_room-requires c =
    let x = ready c.args.old.now c.args.bits c.requires _ (sym c.in_ok-olds.was ∙ c.sanity_check_pieces.ensures.0) (few_of _ _ c.sanity_check_pieces.ensures.1 c.in_ok-olds.was) in
    let y = ready c.args.new.now c.args.bits c.requires _ (sym (mapped-ok _ _ c.map_err.ensures.cases _ c.in_ok-news.was) ∙ c.sanity_check_pieces-2.ensures.0) (few_of _ _ c.sanity_check_pieces-2.ensures.1 (mapped-ok _ _ c.map_err.ensures.cases _ c.in_ok-news.was)) in
    (x.0, y.0, bounded_changes _ _ _ _ x.0 y.0 x.1 y.1)

pub returns-in_err-olds : goal.returns-in_err-olds
returns-in_err-olds c =
    let m = c.args.old.now in
    let n = c.args.new.now in
    let p = err_from_is_err_and c.from_residual.result c.from_residual.ensures.1 in
    rw (p.1, p.2)
    (hands_refused (comparison m n c.args.bits) c.args.out.now _ (old_refused m n c.args.bits _ (refuses m c.args.bits c.requires _ (sym c.in_err-olds.was ∙ c.sanity_check_pieces.ensures.0))))

pub returns-in_err-news : goal.returns-in_err-news
returns-in_err-news c =
    let m = c.args.old.now in
    let n = c.args.new.now in
    let x = accepts m c.args.bits c.requires _ (sym c.in_ok-olds.was ∙ c.sanity_check_pieces.ensures.0) in
    let q = mapped-err _ _ c.map_err.ensures.cases _ c.in_err-news.was in
    let p = err_from_is_err_and c.from_residual-in_err-news.result c.from_residual-in_err-news.ensures.1 in
    rw (p.1, p.2, q.2)
    (hands_refused (comparison m n c.args.bits) c.args.out.now _ (new_refused m n c.args.bits _ _ _ x.2 (refuses n c.args.bits c.requires _ (sym q.1 ∙ c.sanity_check_pieces-2.ensures.0))))

pub returns : goal.returns
returns c =
    let m = c.args.old.now in
    let n = c.args.new.now in
    let x = accepts m c.args.bits c.requires _ (sym c.in_ok-olds.was ∙ c.sanity_check_pieces.ensures.0) in
    let y = accepts n c.args.bits c.requires _ (sym (mapped-ok _ _ c.map_err.ensures.cases _ c.in_ok-news.was) ∙ c.sanity_check_pieces-2.ensures.0) in
    hands_same (comparison m n c.args.bits) (Told (changes_of m n 128)) c.args.out.now _ _ (told_wide m n c.args.bits c.requires _ _ _ _ x.2 y.2) c.write_if_room.ensures
