-- Both checks decide.
use Rattle.std.proofs.Common.{◌∙◌, sym}
use Rattle.std.proofs.lemmas.Result.{err_from_is_err_and}
use Rattle.asmap_changes.specs.Changes.{changes_of}
use Rattle.asmap_compare.specs.Compare.{Told, comparison}
use Rattle.asmap_compare.proofs.CallLaws.{few_of, mapped-ok, mapped-err, ready, accepts, refuses, told_wide, old_refused, new_refused, finds_refused, finds_same}
use Rattle.asmap_compare.proofs.bytes_over.Goals as goal

pub find_changes-requires : goal.find_changes-requires
find_changes-requires c = (
  (ready c.args.old.now c.args.bits c.requires _ (sym c.in_ok-sanity_check_pieces.was ∙ c.sanity_check_pieces.ensures.0) (few_of _ _ c.sanity_check_pieces.ensures.1 c.in_ok-sanity_check_pieces.was)).0,
  (ready c.args.new.now c.args.bits c.requires _ (sym (mapped-ok _ _ c.map_err.ensures.cases _ c.in_ok-map_err.was) ∙ c.sanity_check_pieces-2.ensures.0) (few_of _ _ c.sanity_check_pieces-2.ensures.1 (mapped-ok _ _ c.map_err.ensures.cases _ c.in_ok-map_err.was))).0,
)

pub returns-in_err-sanity_check_pieces : goal.returns-in_err-sanity_check_pieces
returns-in_err-sanity_check_pieces c =
    let m = c.args.old.now in
    let n = c.args.new.now in
    let p = err_from_is_err_and c.from_residual.result c.from_residual.ensures.1 in
    rw (p.1, p.2)
    (finds_refused (comparison m n c.args.bits) c.args.first.now _ (old_refused m n c.args.bits _ (refuses m c.args.bits c.requires _ (sym c.in_err-sanity_check_pieces.was ∙ c.sanity_check_pieces.ensures.0))))

pub returns-in_err-map_err : goal.returns-in_err-map_err
returns-in_err-map_err c =
    let m = c.args.old.now in
    let n = c.args.new.now in
    let x = accepts m c.args.bits c.requires _ (sym c.in_ok-sanity_check_pieces.was ∙ c.sanity_check_pieces.ensures.0) in
    let q = mapped-err _ _ c.map_err.ensures.cases _ c.in_err-map_err.was in
    let p = err_from_is_err_and c.from_residual-in_err-map_err.result c.from_residual-in_err-map_err.ensures.1 in
    rw (p.1, p.2, q.2)
    (finds_refused (comparison m n c.args.bits) c.args.first.now _ (new_refused m n c.args.bits _ _ _ x.2 (refuses n c.args.bits c.requires _ (sym q.1 ∙ c.sanity_check_pieces-2.ensures.0))))

pub returns : goal.returns
returns c =
    let m = c.args.old.now in
    let n = c.args.new.now in
    let x = accepts m c.args.bits c.requires _ (sym c.in_ok-sanity_check_pieces.was ∙ c.sanity_check_pieces.ensures.0) in
    let y = accepts n c.args.bits c.requires _ (sym (mapped-ok _ _ c.map_err.ensures.cases _ c.in_ok-map_err.was) ∙ c.sanity_check_pieces-2.ensures.0) in
    finds_same (comparison m n c.args.bits) (Told (changes_of m n 128)) c.args.first.now _ _ (told_wide m n c.args.bits c.requires _ _ _ _ x.2 y.2) c.find_changes.ensures
