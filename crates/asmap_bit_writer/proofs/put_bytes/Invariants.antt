-- The bytes that are left go where they would have gone.
use Rattle.std.proofs.Common.{◌≡◌, ◌+◌, ◌-◌, length}
use Rattle.asmap_bit_writer.specs.models.Stream.{put_bytes}
use Rattle.asmap_bit_writer.proofs.put_bytes.Given as goal

abbrev pub invariant-loop-i : goal.invariant-loop-i
invariant-loop-i l =
    (length l.out ≡ length l.fn.out)
    × (put_bytes l.count l.fn.out l.from l.number ≡ put_bytes (l.count - l.i) l.out (l.from + l.i) l.bits)
