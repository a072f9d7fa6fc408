-- A pass counts, then the room decides, and a pass writes.
use Rattle.std.proofs.Common.{◌∙◌, ℕ, List, length, false, sym, ap, subst, refl, arith, Result}
use Rattle.std.proofs.lemmas.List.Edits.{sets}
use Rattle.asmap_bit_writer.specs.Bytes.{bytes_of}
use Rattle.asmap_records.specs.Output.{Hands}
use Rattle.asmap_build.specs.Build.{tree_bits}
use Rattle.asmap_build.specs.models.Size.{Filled}
use Rattle.asmap_build.proofs.CallLaws.{made, hands_over, hands_no_room, hands-bits}
use Rattle.asmap_build.proofs.build_listed.Goals as goal
use Rattle.refusals.specs.declared.Refusal.{Refusal}

-- a pass that only counts leaves the output as it was
unwritten : {bits o o' : List ℕ} {r : Result ℕ Refusal} → Filled false bits o o' → Hands (made bits o) o o r → Hands (made bits o) o o' r
unwritten {bits} {o} {o'} {r} f h = subst (λ (x : List ℕ). Hands (made bits o) o x r) (sym (f.idle refl)) h

pub returns-in_default : goal.returns-in_default
returns-in_default c = unwritten c.in_default.ensures.1 (hands_over (tree_bits c.args.prefixes.records.now c.args.prefixes.given 128) c.args.out.now c.in_default.ensures.0)

pub returns-then-out-bytes : goal.returns-then-out-bytes
returns-then-out-bytes c =
    let k = c.in-Some.ensures.0 in
    let l = ap length (c.in-Some.ensures.1.idle refl) in
    unwritten c.in-Some.ensures.1
    (hands_no_room (tree_bits c.args.prefixes.records.now c.args.prefixes.given 128) c.args.out.now c.div_ceil-bytes.result k.1 (omega (arith, k.0, c.div_ceil-bytes.ensures)) (omega (arith, c.if-out-bytes.true, l)))

pub returns : goal.returns
returns c =
    let bits = tree_bits c.args.prefixes.records.now c.args.prefixes.given 128 in
    let k = c.in-Some.ensures.0 in
    let e = c.in-Some.ensures.1.idle refl in
    let l = ap length e in
    hands-bits bits c.args.out.now c.div_ceil-bytes.result k.1 (omega (arith, k.0, c.div_ceil-bytes.ensures)) _ (omega (arith, c.if-out-bytes.false, l))
    (c.pass-2.ensures.1.busy refl ∙ ap (λ (x : List ℕ). sets x 0 (bytes_of bits)) e)
