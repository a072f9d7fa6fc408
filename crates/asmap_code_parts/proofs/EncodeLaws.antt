-- How a code is written, one size after the other: what each turn of the writer does.
-- Assumes nothing.
use mathlib.Core.Path.{◌≡◌}
use mathlib.Core.List.{List, ◌∷◌}
use Prim.Native.Nat.{ℕ, ◌+◌, ◌-◌, ◌^◌, ◌≤◌, ◌<◌}
use native.Mathlib.Omega.{arith}
use borrow.Author.Tests.{lt-ltb, le-ltb}
use lib.ListN.{length, get_or, drop, drop_of_length-le}
use Rattle.asmap_codes.specs.Bits.{high}
use Rattle.asmap_codes.specs.Encode.{encode}
use Rattle.asmap_codes.proofs.CodeLaws.{heads}

module _ (ss : List ℕ) (x i : ℕ) where
  pub encode_more : i + 1 < length ss → 2 ^ get_or ss i 0 ≤ x → encode (drop i ss) x ≡ 1 ∷ encode (drop (i + 1) ss) (x - 2 ^ get_or ss i 0)
  encode_more h l = rw (heads ss i (omega arith), heads ss (i + 1) h, le-ltb x (2 ^ get_or ss i 0) l)

  pub encode_stop : i + 1 < length ss → x < 2 ^ get_or ss i 0 → encode (drop i ss) x ≡ 0 ∷ high (get_or ss i 0) x
  encode_stop h l = rw (heads ss i (omega arith), heads ss (i + 1) h, lt-ltb x (2 ^ get_or ss i 0) l)

  pub encode_last : i + 1 ≡ length ss → encode (drop i ss) x ≡ high (get_or ss i 0) x
  encode_last h = rw (heads ss i (omega arith), drop_of_length-le ss {i = i + 1} (omega arith))
