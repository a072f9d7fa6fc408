-- The word is put above the bits held (stream-push), and 64 bits go out (stream_full); what will be written in the end stays the same.
use Rattle.std.proofs.Common.{◌≡◌, ◌∙◌, refl, sym, ap, arith, ℕ, List, ◌+◌, ◌-◌, ◌*◌, ◌/◌, ◌%◌, ◌^◌, ◌≤◌, ◌++◌, length}
use lib.Seq.{sets}
use Rattle.std.specs.Int.{w64, to_le_bytes}
use Rattle.byte_numbers.proofs.Buffers.{sets_part}
use Rattle.asmap_codes.specs.Bits.{low}
use Rattle.asmap_codes.proofs.BitLaws.{length-low}
use Rattle.asmap_encode.proofs.WordLaws.{shifted, window_lt}
use Rattle.asmap_bit_writer.specs.Bytes.{bytes_of}
use Rattle.asmap_bit_writer.specs.models.Stream.{stream}
use Rattle.asmap_bit_writer.proofs.WriterLaws.{stream-push, stream_full, shifted_fits, rest_lt, length-put, put_eight}
use Rattle.asmap_bit_writer.proofs.BitWriter.push_word.Goals as goal

pub overflow_add-self : goal.overflow_add-self
overflow_add-self c =
    let w = c.args.self.now in
    let x = c.args.word in
    record { fits = shifted_fits x.bits w.held (omega arith) w.bits c.requires.0.small }

pub returns-else-self-ge64 : goal.returns-else-self-ge64
unfolding stream
returns-else-self-ge64 c =
    let o = c.args.out.now in
    let w = c.args.self.now in
    let x = c.args.word in
    let p = c.requires in
    let e = shifted x.bits x.len w.held p.1 (omega arith) in
    rw e record {
      ready = record { small = window_lt w.bits w.held x.bits x.len p.0.small p.1; short = omega arith };
      placed = omega (arith, length-low x.len x.bits);
      kept = refl;
      streams = λ rest. stream-push o w.place w.held x.len w.bits x.bits rest p.0.small;
    }

pub returns-then-self-ge64 : goal.returns-then-self-ge64
unfolding stream
returns-then-self-ge64 c =
    let o = c.args.out.now in
    let w = c.args.self.now in
    let x = c.args.word in
    let p = c.requires in
    let h : 64 ≤ w.held + x.len = omega arith in
    let f : w.held ≤ 64 = omega (arith, p.0.short) in
    let b = w.bits + x.bits * 2 ^ w.held % 2 ^ 64 in
    let bytes : c.copy_from_slice.new.self ≡ to_le_bytes w64 b = c.copy_from_slice.ensures.after ∙ c.to_le_bytes.ensures ∙ ap (to_le_bytes w64) (omega arith) in
    let e = sets_part o w.place 8 (to_le_bytes w64 b) c.copy_from_slice.new.self bytes refl (omega (arith, h, p.2)) ∙ put_eight o w.place b in
    record {
      ready = record { small = rest_lt x.bits w.held f x.len p.1 h; short = omega (arith, f, p.2) };
      placed = omega (arith, h, length-low x.len x.bits);
      kept = ap length e ∙ length-put 8 o w.place b;
      streams = λ rest.
          stream_full x.bits w.held f o w.place x.len w.bits rest p.0.small h
          ∙ ap (λ (y : List ℕ). sets y (w.place + 8) (bytes_of (low (w.held + x.len - 64) (x.bits / 2 ^ (64 - w.held)) ++ rest))) (sym e);
    }
