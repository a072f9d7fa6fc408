-- What a test says of a place: which case of `bits_left` and of `read_bit` holds.
-- Assumes nothing.
use Prim.Native.Nat.{ℕ, ◌+◌, ◌-◌, ◌*◌, ◌≤◌, ◌<◌}
use mathlib.Core.Path.{◌≡◌}
use mathlib.Core.List.{List}
use borrow.Author.Tests.{lt-ltb, le-ltb}
use lib.ListN.{length, get_or}
use Rattle.asmap_codes.specs.Bits.{map_bits}
use Rattle.asmap_items.specs.Items.{bits_left, read_bit}
use Rattle.asmap_codes.specs.Reading.{Found}
use Rattle.refusals.specs.declared.Fault.TheVariants as fault
use Rattle.std.specs.Prelude.{Err}

module _ (m : List ℕ) (at : ℕ) where
  pub none_left_long : 16777216 < length m → bits_left m at ≡ 0
  none_left_long h = rw (lt-ltb 16777216 (length m) h)

  pub left_within : (n : ℕ) → length m ≤ 16777216 → 8 * length m - at ≡ n → bits_left m at ≡ n
  left_within n h e = rw (le-ltb 16777216 (length m) h) e

  pub bit_long : 16777216 < length m → read_bit m at ≡ Err fault.MapTooLong
  bit_long h = rw (lt-ltb 16777216 (length m) h)

  pub bit_past : length m ≤ 16777216 → 8 * length m ≤ at → read_bit m at ≡ Err fault.CutOpcode
  bit_past h k = rw (le-ltb 16777216 (length m) h, le-ltb at (8 * length m) k)

  pub bit_there : length m ≤ 16777216 → at < 8 * length m → read_bit m at ≡ Found (get_or (map_bits m) at 0) (at + 1)
  bit_there h k = rw (le-ltb 16777216 (length m) h, lt-ltb at (8 * length m) k)
