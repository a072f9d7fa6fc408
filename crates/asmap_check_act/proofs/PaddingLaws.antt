-- The padding after the final RETURN, as the loop of `padded` reads it.
-- Assumes nothing.
use Prim.Native.Nat.{ℕ, ◌+◌, ◌-◌, ◌*◌, ◌≤◌, ◌<◌}
use mathlib.Core.Bool.{true, false}
use mathlib.Core.Path.{◌≡◌}
use mathlib.Core.Logic.{◌≢◌}
use mathlib.Core.List.{List}
use native.Mathlib.Omega.{arith}
use borrow.Author.Tests.{lt-leb, le-leb}
use lib.ListN.{length, get_or, drop, drop_of_length-le}
use Rattle.asmap_codes.specs.Bits.{map_bits, all_zero}
use Rattle.asmap_codes.specs.Instruction.{padded_from}
use Rattle.asmap_codes.proofs.BitLaws.{length-map_bits, bit_lt}
use Rattle.asmap_codes.proofs.CodeLaws.{heads}

-- what may follow the final RETURN
module _ (m : List ℕ) (at : ℕ) where
  pub padded_long : 7 < 8 * length m - at → false ≡ padded_from m at
  unfolding padded_from
  padded_long h = rw (lt-leb (8 * length m - at) 7 h)

  pub padded_short : 8 * length m - at ≤ 7 → all_zero (drop at (map_bits m)) ≡ padded_from m at
  unfolding padded_from
  padded_short h = rw (le-leb (8 * length m - at) 7 h)

-- a bit more of the padding
module _ (m : List ℕ) (pos : ℕ) where
  pub zero_on : pos < 8 * length m → get_or (map_bits m) pos 0 ≢ 1 → all_zero (drop pos (map_bits m)) ≡ all_zero (drop (pos + 1) (map_bits m))
  zero_on h e =
      let z : get_or (map_bits m) pos 0 ≡ 0 = omega (arith, bit_lt m pos, e) in
      rw (heads (map_bits m) pos (omega (arith, length-map_bits m)), z)

  pub zero_off : pos < 8 * length m → get_or (map_bits m) pos 0 ≡ 1 → all_zero (drop pos (map_bits m)) ≡ false
  zero_off h e = rw (heads (map_bits m) pos (omega (arith, length-map_bits m)), e)

  pub zero_end : 8 * length m ≤ pos → all_zero (drop pos (map_bits m)) ≡ true
  zero_end h = rw (drop_of_length-le (map_bits m) {i = pos} (omega (arith, length-map_bits m)))
