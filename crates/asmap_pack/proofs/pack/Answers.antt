-- What the first loop says of the records decides, and the second writes their bits.
use Rattle.std.proofs.Common.{◌≡◌, ◌∙◌, sym, ap, arith, ℕ, ◌/◌, ◌%◌, List, length, true, false, eqb-true}
use Rattle.std.specs.Bool.{◌==◌}
use Rattle.std.specs.Simd.{first_chunks}
use Rattle.std.proofs.lemmas.List.Edits.{sets}
use Rattle.std.proofs.lemmas.Result.{err_from_is_err_and}
use Rattle.refusals.specs.declared.Refusal.TheVariants as refusal
use Rattle.asmap_bit_writer.specs.Bytes.{bytes_of}
use Rattle.asmap_bit_writer.proofs.ByteLaws.{length-bytes_of}
use Rattle.asmap_records.specs.Pack.{records_bits, pack_of}
use Rattle.asmap_records.specs.Output.{Making, Made, No}
use Rattle.asmap_records.proofs.OutputLaws.{hands_no, hands_short, hands_made}
use Rattle.asmap_records.proofs.PackLaws.{pack_ragged, pack_whole}
use Rattle.asmap_pack.specs.models.Size.{bits_in}
use Rattle.asmap_pack.specs.models.Records.{bits_from}
use Rattle.asmap_pack.proofs.SizeLaws.{ends_made, wrong_no, chunk-bits}
use Rattle.asmap_pack.proofs.pack.Goals as goal

-- no byte is left over, or some are
none_left : {n : ℕ} → true ≡ (n == 0) → n ≡ 0
none_left {n} e = eqb-true n 0 (sym e)

some_left : {n : ℕ} → false ≡ (n == 0) → n ≡ 0 → ⊥
some_left e z = let q = rw z at e in cc

-- the records one by one are those of the bytes
records_as : (rs : List ℕ) (whole : List (List ℕ)) (r : Making) → whole ≡ first_chunks 16 (length rs / 16) rs → bits_from whole 0 ≡ r → records_bits (length rs / 16) rs 0 ≡ r
records_as rs whole r e h = sym (chunk-bits (length rs / 16) rs 0) ∙ ap (λ (y : List (List ℕ)). bits_from y 0) (sym e) ∙ h

pub returns-then-not-is_empty : goal.returns-then-not-is_empty
returns-then-not-is_empty c =
    let p = c.as_chunks.ensures in
    hands_no (pack_of c.args.records.now) c.args.out.now refusal.Record
    (pack_ragged c.args.records.now (λ e. some_left (sym c.if-not-is_empty.true ∙ c.is_empty.ensures) (p.back_len ∙ e)))

pub returns-in_err-records_end : goal.returns-in_err-records_end
returns-in_err-records_end c =
    let a = c.args in
    let rs = a.records.now in
    let q = c.as_chunks.ensures in
    let z : length rs % 16 ≡ 0 = sym q.back_len ∙ none_left (sym c.if-not-is_empty.false ∙ c.is_empty.ensures) in
    let n = c.in_err-records_end.field-0.0 in
    let p = err_from_is_err_and c.from_residual.result c.from_residual.ensures.1 in
    let w = wrong_no 0 n _ (sym c.records_end.ensures ∙ c.in_err-records_end.was) in
    rw (p.1, p.2) (hands_no (pack_of rs) a.out.now n (pack_whole rs (No n) z (records_as rs _ (No n) q.front w)))

pub returns-then-out-bytes : goal.returns-then-out-bytes
returns-then-out-bytes c =
    let a = c.args in
    let rs = a.records.now in
    let q = c.as_chunks.ensures in
    let z : length rs % 16 ≡ 0 = sym q.back_len ∙ none_left (sym c.if-not-is_empty.false ∙ c.is_empty.ensures) in
    let k = ends_made 0 c.in_ok-records_end.field-0 _ (sym c.records_end.ensures ∙ c.in_ok-records_end.was) in
    hands_short (pack_of rs) a.out.now (bytes_of k.0) (pack_whole rs (Made k.0) z (records_as rs _ (Made k.0) q.front k.1))
    (omega (arith, k.2, length-bytes_of k.0, c.div_ceil-bytes.ensures))

pub write_records-requires : goal.write_records-requires
write_records-requires c =
    let k = ends_made 0 c.in_ok-records_end.field-0 _ (sym c.records_end.ensures ∙ c.in_ok-records_end.was) in
    (k.0, k.1, omega (arith, k.2, c.div_ceil-bytes.ensures))

pub returns : goal.returns
returns c =
    let a = c.args in
    let rs = a.records.now in
    let q = c.as_chunks.ensures in
    let z : length rs % 16 ≡ 0 = sym q.back_len ∙ none_left (sym c.if-not-is_empty.false ∙ c.is_empty.ensures) in
    let k = ends_made 0 c.in_ok-records_end.field-0 _ (sym c.records_end.ensures ∙ c.in_ok-records_end.was) in
    hands_made (pack_of rs) a.out.now (bytes_of k.0) _ _ (pack_whole rs (Made k.0) z (records_as rs _ (Made k.0) q.front k.1))
    (omega (arith, k.2, length-bytes_of k.0, c.div_ceil-bytes.ensures))
    (omega (arith, k.2, length-bytes_of k.0, c.div_ceil-bytes.ensures))
    (c.write_records.ensures ∙ ap (λ (y : Making). sets a.out.now 0 (bytes_of (bits_in y))) k.1)
