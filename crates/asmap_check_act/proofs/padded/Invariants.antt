-- The bits passed are all 0.
use Rattle.std.proofs.Common.{◌≡◌, drop}
use Rattle.asmap_codes.specs.Bits.{map_bits, all_zero}
use Rattle.asmap_check_act.proofs.padded.Given as goal

abbrev pub invariant-loop-pos : goal.invariant-loop-pos
invariant-loop-pos l = all_zero (drop l.at (map_bits l.map)) ≡ all_zero (drop l.pos (map_bits l.map))
