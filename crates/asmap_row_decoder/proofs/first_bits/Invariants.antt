-- The bits passed, and the number that they write.
use Rattle.std.proofs.Common.{◌≡◌, ◌/◌, ◌^◌}
use Rattle.asmap_codes.specs.Bits.{number, low}
use Rattle.asmap_row_decoder.proofs.first_bits.Given as goal

abbrev pub invariant-loop-k : goal.invariant-loop-k
invariant-loop-k l = (l.left ≡ l.w / 2 ^ l._k) × (l.value ≡ number (low l._k l.w))
