-- The seed and the number of pairs decide first, then the room, and then the load is written.
use Rattle.std.proofs.Common.{◌≡◌, ◌∙◌, ◌+◌, ◌/◌, length, sym, ap, arith}
use Rattle.std.proofs.lemmas.List.Edits.{sets}
use Rattle.std.proofs.lemmas.Result.{err_from_is_err_and}
use Rattle.refusals.specs.declared.Refusal.TheVariants as refusal
use Rattle.asmap_bit_writer.specs.Bytes.{bytes_of}
use Rattle.load_draws.proofs.DrawLaws.{started, not_started}
use Rattle.asmap_load.specs.Load.{load_bits}
use Rattle.asmap_load.proofs.LoadLaws.{load_seed, load_many}
use Rattle.asmap_load.proofs.PassLaws.{load_refused, load_no_room, load_wrote}
use Rattle.asmap_load.proofs.load.Goals as goal

pub returns-in_err-generator-clause-hands : goal.returns-in_err-generator-clause-hands
returns-in_err-generator-clause-hands c =
    let a = c.args in
    let p = err_from_is_err_and c.from_residual.result c.from_residual.ensures.1 in
    let n = not_started a.seed _ (sym c.seeded.ensures ∙ c.in_err-generator.was) in
    rw (p.1, p.2, n.1) (load_refused a.seed a.pairs a.out.now refusal.Load (load_seed a.seed a.pairs n.0)).0

pub returns-then-pairs-gt-MAX_PAIRS-clause-hands : goal.returns-then-pairs-gt-MAX_PAIRS-clause-hands
returns-then-pairs-gt-MAX_PAIRS-clause-hands c =
    let g = started c.args.seed c.in_ok-generator.generator (sym c.seeded.ensures ∙ c.in_ok-generator.was) in
    (load_refused c.args.seed c.args.pairs c.args.out.now refusal.Load (load_many c.args.seed c.args.pairs g.0 (omega arith))).0

pub returns-then-out-bytes-clause-hands : goal.returns-then-out-bytes-clause-hands
returns-then-out-bytes-clause-hands c =
    let g = started c.args.seed c.in_ok-generator.generator (sym c.seeded.ensures ∙ c.in_ok-generator.was) in
    let counted = c.load_length.ensures ∙ ap (λ x. length (load_bits c.args.pairs x)) g.1 in
    let n : c.div_ceil-bytes.result ≡ (length (load_bits c.args.pairs c.args.seed) + 7) / 8 = omega (arith, c.div_ceil-bytes.ensures, counted) in
    (load_no_room c.args.seed c.args.pairs c.args.out.now _ g.0 (omega arith) n (omega arith)).0

pub returns-clause-hands : goal.returns-clause-hands
returns-clause-hands c =
    let g = started c.args.seed c.in_ok-generator.generator (sym c.seeded.ensures ∙ c.in_ok-generator.was) in
    let counted = c.load_length.ensures ∙ ap (λ x. length (load_bits c.args.pairs x)) g.1 in
    let n : c.div_ceil-bytes.result ≡ (length (load_bits c.args.pairs c.args.seed) + 7) / 8 = omega (arith, c.div_ceil-bytes.ensures, counted) in
    let written = c.write_load.ensures ∙ ap (λ x. sets c.args.out.now 0 (bytes_of (load_bits c.args.pairs x))) g.1 in
    (load_wrote c.args.seed c.args.pairs c.args.out.now _ g.0 (omega arith) n _ (omega arith) written).0

pub returns-clause-passes : goal.returns-clause-passes
returns-clause-passes c =
    let g = started c.args.seed c.in_ok-generator.generator (sym c.seeded.ensures ∙ c.in_ok-generator.was) in
    let counted = c.load_length.ensures ∙ ap (λ x. length (load_bits c.args.pairs x)) g.1 in
    let n : c.div_ceil-bytes.result ≡ (length (load_bits c.args.pairs c.args.seed) + 7) / 8 = omega (arith, c.div_ceil-bytes.ensures, counted) in
    let written = c.write_load.ensures ∙ ap (λ x. sets c.args.out.now 0 (bytes_of (load_bits c.args.pairs x))) g.1 in
    (load_wrote c.args.seed c.args.pairs c.args.out.now _ g.0 (omega arith) n _ (omega arith) written).1
