-- The bits held are the bytes of their number (stream_finished).
use Rattle.std.proofs.Common.{◌≡◌, ◌∙◌, ℕ, ◌+◌, ◌/◌, sym, ap, arith}
use Rattle.asmap_bit_writer.specs.models.Stream.{put_bytes}
use Rattle.asmap_bit_writer.proofs.WriterLaws.{stream_finished}
use Rattle.asmap_bit_writer.proofs.BitWriter.finish.Goals as goal

pub returns : goal.returns
returns c =
    let a = c.args in
    let n : c.div_ceil.result ≡ (a.self.held + 7) / 8 = omega (arith, c.div_ceil.ensures) in
    c.put_bytes.ensures ∙ ap (λ (k : ℕ). put_bytes k a.out.now a.self.place a.self.bits) n ∙ sym (stream_finished a.out.now a.self c.requires.0.small)
